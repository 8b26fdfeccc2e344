-- What the grammar spells, the reader reads.
use Rattle.std.proofs.Common.{◌≡◌, ℕ, suc, ◌<◌, List, [], ◌∷◌, ◌++◌, Bool, true, false, length, length-append, Option, Some, None, refl, sym, ap, ◌∙◌, arith, append_assoc, append-nil}
use Rattle.std.specs.Option.{option_and_then}
use Rattle.std.specs.Prelude.{option_map}
use Rattle.scim_filter.specs.Expressions.{Expression, Only, Both, Either, Negated}
use Rattle.scim_filter.specs.Grammar.{spaces, IsTest, presence, text_test, flag_test, IsItem, negation, group, test, IsAll, item, and, IsFilter, all, or, IsText, whole}
use Rattle.scim_filter.specs.Parsing as parsing
use Rattle.scim_filter.specs.Parsing.{after_gap, after_connective, item_by, closed, operand, filter, between, ended, condition}
use Rattle.scim_filter.specs.declared.terms.FlagOperator.TheVariants.{Is, IsNot}
use Rattle.scim_filter.specs.declared.terms.Test.{Test}
use Rattle.scim_filter.specs.declared.words.Word.TheVariants.{Not, And, Or}
use Rattle.scim_filter.specs.declared.tokens.Token.{Token}
use Rattle.scim_filter.specs.declared.tokens.Token.TheVariants.{Gap, Open, Close, Plain}
use Rattle.scim_filter.specs.declared.reader.Connective.TheVariants as connectives
use Rattle.scim_filter.proofs.Chains.{Onward, first, next, stops}

-- ---- a filter begins with no gap

abbrev StartsAtOnce : List Token → Type 0
StartsAtOnce ts = (rest : List Token) → after_gap (ts ++ rest) ≡ ts ++ rest

test_starts : {ts : List Token} {t : Test} → IsTest ts t → StartsAtOnce ts
unfolding after_gap
test_starts (presence a) rest = refl
test_starts (text_test a o s) rest = refl
test_starts (flag_test a o v) rest = refl

item_starts : {d : ℕ} {ts : List Token} {e : Expression} → IsItem d ts e → StartsAtOnce ts
unfolding after_gap
item_starts (negation a b c f) rest = refl
item_starts (group b c f) rest = refl
item_starts (test t) rest = test_starts t rest

all_starts : {d : ℕ} {ts : List Token} {e : Expression} → IsAll d ts e → StartsAtOnce ts
all_starts (item i) rest = item_starts i rest
all_starts (and {d} {ts} {us} f i) rest = rw append_assoc (all_starts f (Gap ∷ Plain And ∷ Gap ∷ (us ++ rest)))

filter_starts : {d : ℕ} {ts : List Token} {e : Expression} → IsFilter d ts e → StartsAtOnce ts
filter_starts (all a) rest = all_starts a rest
filter_starts (or {d} {ts} {us} f a) rest = rw append_assoc (filter_starts f (Gap ∷ Plain Or ∷ Gap ∷ (us ++ rest)))

past_gap : (b : Bool) {d : ℕ} {ts : List Token} {e : Expression} → IsFilter d ts e → (rest : List Token) → after_gap (spaces b ++ (ts ++ rest)) ≡ ts ++ rest
unfolding after_gap
past_gap true f rest = refl
past_gap false f rest = filter_starts f rest

-- ---- each part, whatever follows it

reads_test : (d : ℕ) {ts : List Token} {t : Test} → IsTest ts t → (rest : List Token) → operand connectives.And d (ts ++ rest) ≡ Some (Only t, rest)
unfolding item_by condition
reads_test d (presence a) rest = refl
reads_test d (text_test a o s) rest = refl
reads_test d (flag_test a Is v) rest = refl
reads_test d (flag_test a IsNot v) rest = refl

shorter : (us rest : List Token) → length rest < length (Gap ∷ Plain And ∷ Gap ∷ (us ++ rest))
shorter us rest = let e = length-append us rest in omega (arith, e)

reads_negation : (a : Bool) (d : ℕ) (ts rest : List Token) (e : Expression) → parsing.group d ts ≡ Some (e, rest) → operand connectives.And d (Plain Not ∷ (spaces a ++ (Open ∷ ts))) ≡ Some (Negated e, rest)
unfolding item_by parsing.negation after_gap
reads_negation true d ts rest e h = ap (option_map (λ p. (Negated p.0, p.1))) h
reads_negation false d ts rest e h = ap (option_map (λ p. (Negated p.0, p.1))) h

reads_open : (d : ℕ) (ts : List Token) → operand connectives.And d (Open ∷ ts) ≡ parsing.group d ts
unfolding item_by
reads_open d ts = refl

after_and : (rest : List Token) → after_connective connectives.And (Gap ∷ Plain And ∷ Gap ∷ rest) ≡ Some rest
unfolding after_connective
after_and rest = refl

after_or : (rest : List Token) → (after_connective connectives.And (Gap ∷ Plain Or ∷ Gap ∷ rest) ≡ None) × (after_connective connectives.Or (Gap ∷ Plain Or ∷ Gap ∷ rest) ≡ Some rest)
unfolding after_connective
after_or rest = (refl, refl)

abbrev ItemIsRead : ℕ → List Token → Expression → Type 0
ItemIsRead d ts e = (rest : List Token) → operand connectives.And d (ts ++ rest) ≡ Some (e, rest)

abbrev AllIsRead : ℕ → List Token → Expression → Type 0
AllIsRead d ts e = (rest : List Token) → Onward connectives.And (operand connectives.And d) (operand connectives.Or d (ts ++ rest)) e rest

abbrev FilterIsRead : ℕ → List Token → Expression → Type 0
FilterIsRead d ts e = (rest : List Token) → after_connective connectives.And rest ≡ None → Onward connectives.Or (operand connectives.Or d) (filter d (ts ++ rest)) e rest

reads_and : (d : ℕ) (ts us : List Token) (a b : Expression) → AllIsRead d ts a → ItemIsRead d us b → AllIsRead d (ts ++ (Gap ∷ Plain And ∷ Gap ∷ us)) (Both a b)
reads_and d ts us a b f g rest =
    rw append_assoc (next connectives.And (operand connectives.And d) (f (Gap ∷ Plain And ∷ Gap ∷ (us ++ rest))) b (us ++ rest) rest (after_and (us ++ rest)) (g rest) (shorter us rest))

reads_or : (d : ℕ) (ts us : List Token) (a b : Expression) → FilterIsRead d ts a → AllIsRead d us b → FilterIsRead d (ts ++ (Gap ∷ Plain Or ∷ Gap ∷ us)) (Either a b)
reads_or d ts us a b f g rest h =
    let k = after_or (us ++ rest) in
    rw append_assoc (next connectives.Or (operand connectives.Or d) (f (Gap ∷ Plain Or ∷ Gap ∷ (us ++ rest)) k.0) b (us ++ rest) rest k.1 (stops connectives.And (operand connectives.And d) (g rest) h) (shorter us rest))

-- these tokens end a filter, behind a gap or not
abbrev Ends : List Token → Type 0
Ends rest = (c : Bool) → (after_connective connectives.And (spaces c ++ rest) ≡ None) × (after_connective connectives.Or (spaces c ++ rest) ≡ None) × (after_gap (spaces c ++ rest) ≡ rest)

close_ends : (ts : List Token) → Ends (Close ∷ ts)
unfolding after_connective after_gap
close_ends ts true = (refl, refl, refl)
close_ends ts false = (refl, refl, refl)

nothing_ends : Ends []
unfolding after_connective after_gap
nothing_ends true = (refl, refl, refl)
nothing_ends false = (refl, refl, refl)

-- a filter between gaps, and what is made of it
reads_between : {A : Type 0} (ends : Expression → List Token → Option A) {d : ℕ} {ts : List Token} {e : Expression} → IsFilter d ts e → FilterIsRead d ts e → (b c : Bool) (rest : List Token) → Ends rest
    → between ends (filter d) (spaces b ++ (ts ++ (spaces c ++ rest))) ≡ ends e rest
reads_between ends {d} {ts} {e} f r b c rest k =
    ap (λ x. option_and_then (λ p. ends p.0 (after_gap p.1)) (filter d x)) (past_gap b f (spaces c ++ rest))
    ∙ ap (option_and_then (λ p. ends p.0 (after_gap p.1))) (stops connectives.Or (operand connectives.Or d) (r (spaces c ++ rest) (k c).0) (k c).1)
    ∙ ap (ends e) (k c).2

reads_group : {d : ℕ} {ts : List Token} {e : Expression} → IsFilter d ts e → FilterIsRead d ts e → (b c : Bool) (rest : List Token)
    → parsing.group (suc d) ((spaces b ++ (ts ++ (spaces c ++ Close ∷ []))) ++ rest) ≡ Some (e, rest)
unfolding parsing.group closed
reads_group {d} {ts} f r b c rest =
    let front : (spaces b ++ (ts ++ (spaces c ++ Close ∷ []))) ++ rest ≡ spaces b ++ (ts ++ (spaces c ++ (Close ∷ rest))) = simp append_assoc refl in
    ap (between closed (filter d)) front ∙ reads_between closed f r b c (Close ∷ rest) (close_ends rest)

mutual
  reads_item : {d : ℕ} {ts : List Token} {e : Expression} → IsItem d ts e → ItemIsRead d ts e
  reads_item (negation a b c {d} {ts} {e} f) rest =
      ap (λ x. operand connectives.And (suc d) (Plain Not ∷ x)) (append_assoc (spaces a) (Open ∷ (spaces b ++ (ts ++ (spaces c ++ Close ∷ [])))) rest)
      ∙ reads_negation a (suc d) _ rest e (reads_group f (reads_filter f) b c rest)
  reads_item (group b c {d} {ts} {e} f) rest = reads_open (suc d) _ ∙ reads_group f (reads_filter f) b c rest
  reads_item (test {d} t) rest = reads_test d t rest

  reads_all : {d : ℕ} {ts : List Token} {e : Expression} → IsAll d ts e → AllIsRead d ts e
  reads_all (item {d} {ts} {e} i) rest = first connectives.And (operand connectives.And d) (ts ++ rest) rest e (reads_item i rest)
  reads_all (and {d} {ts} {us} {a} {b} f i) rest = reads_and d ts us a b (reads_all f) (reads_item i) rest

  reads_filter : {d : ℕ} {ts : List Token} {e : Expression} → IsFilter d ts e → FilterIsRead d ts e
  reads_filter (all {d} {ts} {e} a) rest h =
      first connectives.Or (operand connectives.Or d) (ts ++ rest) rest e (stops connectives.And (operand connectives.And d) (reads_all a rest) h)
  reads_filter (or {d} {ts} {us} {a} {b} f g) rest h = reads_or d ts us a b (reads_filter f) (reads_all g) rest h

-- Tokens that are the text of a filter are read as it
pub reads_text : {ts : List Token} {e : Expression} → IsText ts e → parsing.read_filter ts ≡ Some e
reads_text (whole a b {ts} {e} f) =
    ap (λ x. parsing.read_filter (spaces a ++ (ts ++ x))) (sym (append-nil (spaces b))) ∙ reads_between ended f (reads_filter f) a b [] nothing_ends
