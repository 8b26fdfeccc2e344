-- Asking the values of an attribute, and whether there are any.
use Rattle.std.proofs.Common.{◌≡◌, ℕ, List, [], ◌∷◌, length, map, Bool, true, false, ◌||◌, Option, Some, None, nat_lt, refl, sym, ap, ◌∙◌, arith}
use Rattle.std.specs.List.{list_any, filter_map, cons_option}
use Rattle.std.specs.Option.{option_to_list}
use Rattle.std.proofs.lemmas.Bool.Decides.{nat_tests}
use Rattle.scim_resource.specs.declared.emails.Email.{Email}
use Rattle.scim_filter.specs.Comparing.{compares, folded}
use Rattle.scim_filter.specs.Matching.{some_compares, some_is}
use Rattle.scim_filter.specs.declared.terms.TextOperator.{TextOperator}
use Rattle.scim_filter.specs.declared.terms.TextOperator.TheVariants.{StartsWith}

or_false : (b : Bool) → (b || false) ≡ b
or_false true = refl
or_false false = refl

list_any-mapped : {X Y : Type 0} (p : Y → Bool) (f : X → Y) (xs : List X) → list_any p (map f xs) ≡ list_any (λ x. p (f x)) xs
list_any-mapped p f [] = refl
list_any-mapped p f (x ∷ xs) = ap (λ b. p (f x) || b) (list_any-mapped p f xs)

any_option : {Y : Type 0} (p : Y → Bool) (o : Option Y) (ys : List Y) → list_any p (cons_option o ys) ≡ (list_any p (option_to_list o) || list_any p ys)
any_option p None ys = refl
any_option p (Some y) ys = ap (λ b. b || list_any p ys) (sym (or_false (p y)))

list_any-filtered : {X Y : Type 0} (p : Y → Bool) (f : X → Option Y) (xs : List X) → list_any p (filter_map f xs) ≡ list_any (λ x. list_any p (option_to_list (f x))) xs
list_any-filtered p f [] = refl
list_any-filtered p f (x ∷ xs) = any_option p (f x) (filter_map f xs) ∙ ap (λ b. list_any p (option_to_list (f x)) || b) (list_any-filtered p f xs)

-- the values of emails, and their types
module _ (exact : Bool) (operator : TextOperator) (given : List ℕ) where
  pub emails_asked : (emails : List Email) → list_any (λ e. compares operator (folded exact e.value) (folded exact given)) emails ≡ some_compares exact operator given (map (λ e. e.value) emails)
  unfolding some_compares
  emails_asked emails = sym (list_any-mapped (λ text. compares operator (folded exact text) (folded exact given)) (λ (e : Email). e.value) emails)

  pub types_asked : (emails : List Email) → list_any (λ e. some_compares exact operator given (option_to_list e.type_text)) emails ≡ some_compares exact operator given (filter_map (λ e. e.type_text) emails)
  unfolding some_compares
  types_asked emails = sym (list_any-filtered (λ text. compares operator (folded exact text) (folded exact given)) (λ (e : Email). e.type_text) emails)

-- every text begins with the empty one
pub some_begins : (exact : Bool) (texts : List (List ℕ)) → some_compares exact StartsWith [] texts ≡ nat_lt 0 (length texts)
unfolding some_compares
some_begins exact [] = refl
some_begins true (text ∷ texts) = grind (arith, nat_tests)
some_begins false (text ∷ texts) = grind (arith, nat_tests)

-- every boolean is true or false
pub some_either : (flags : List Bool) → (some_is true flags || some_is false flags) ≡ nat_lt 0 (length flags)
unfolding some_is
some_either [] = refl
some_either (true ∷ flags) = grind (arith, nat_tests)
some_either (false ∷ flags) = grind (arith, nat_tests)
