-- How the logic stores an expression: as the list of its parts, each operand before what joins it.
use Rattle.std.specs.Prelude.{◌≡◌, ℕ, List, [], ◌∷◌, ◌++◌, true, false, cond, ◌==◌, refl}
use Rattle.std.proofs.Common.{ap, sym, ◌∙◌, append_assoc, append-nil}
use Rattle.std.specs.Coded.{Coded, code_by, coded×, coded_ℕ, coded_list}
use Rattle.scim_filter.specs.declared.terms.TextAttribute.{TextAttribute}
use Rattle.scim_filter.specs.declared.terms.TextAttribute.TheVariants.{UserName, DisplayName, GivenName, FamilyName, EmailValue, EmailType, Member, Id, ExternalId, Version}
use Rattle.scim_filter.specs.declared.terms.FlagAttribute.{FlagAttribute}
use Rattle.scim_filter.specs.declared.terms.FlagAttribute.TheVariants.{Active, EmailPrimary}
use Rattle.scim_filter.specs.declared.terms.Attribute.TheVariants.{OfText, OfFlag}
use Rattle.scim_filter.specs.declared.terms.TextOperator.{TextOperator}
use Rattle.scim_filter.specs.declared.terms.TextOperator.TheVariants.{Equal, NotEqual, Contains, StartsWith, EndsWith}
use Rattle.scim_filter.specs.declared.terms.FlagOperator.{FlagOperator}
use Rattle.scim_filter.specs.declared.terms.FlagOperator.TheVariants.{Is, IsNot}
use Rattle.scim_filter.specs.declared.terms.Test.{Test}
use Rattle.scim_filter.specs.declared.terms.Test.TheVariants.{Present, Text, Flag}
use Rattle.scim_filter.specs.Expressions.{Expression, Only, Both, Either, Negated}

abbrev text_attribute_number : TextAttribute → ℕ
text_attribute_number UserName = 0
text_attribute_number DisplayName = 1
text_attribute_number GivenName = 2
text_attribute_number FamilyName = 3
text_attribute_number EmailValue = 4
text_attribute_number EmailType = 5
text_attribute_number Member = 6
text_attribute_number Id = 7
text_attribute_number ExternalId = 8
text_attribute_number Version = 9

abbrev text_attribute_at : ℕ → TextAttribute
text_attribute_at n =
    cond (n == 0) UserName (cond (n == 1) DisplayName
    (cond (n == 2) GivenName (cond (n == 3) FamilyName
    (cond (n == 4) EmailValue (cond (n == 5) EmailType
    (cond (n == 6) Member (cond (n == 7) Id (cond (n == 8) ExternalId Version))))))))

text_attribute_at-number : (x : TextAttribute) → text_attribute_at (text_attribute_number x) ≡ x
text_attribute_at-number UserName = refl
text_attribute_at-number DisplayName = refl
text_attribute_at-number GivenName = refl
text_attribute_at-number FamilyName = refl
text_attribute_at-number EmailValue = refl
text_attribute_at-number EmailType = refl
text_attribute_at-number Member = refl
text_attribute_at-number Id = refl
text_attribute_at-number ExternalId = refl
text_attribute_at-number Version = refl

abbrev flag_attribute_number : FlagAttribute → ℕ
flag_attribute_number Active = 0
flag_attribute_number EmailPrimary = 1

abbrev flag_attribute_at : ℕ → FlagAttribute
flag_attribute_at n = cond (n == 0) Active EmailPrimary

flag_attribute_at-number : (x : FlagAttribute) → flag_attribute_at (flag_attribute_number x) ≡ x
flag_attribute_at-number Active = refl
flag_attribute_at-number EmailPrimary = refl

abbrev text_operator_number : TextOperator → ℕ
text_operator_number Equal = 0
text_operator_number NotEqual = 1
text_operator_number Contains = 2
text_operator_number StartsWith = 3
text_operator_number EndsWith = 4

abbrev text_operator_at : ℕ → TextOperator
text_operator_at n =
    cond (n == 0) Equal (cond (n == 1) NotEqual (cond (n == 2) Contains (cond (n == 3) StartsWith EndsWith)))

text_operator_at-number : (x : TextOperator) → text_operator_at (text_operator_number x) ≡ x
text_operator_at-number Equal = refl
text_operator_at-number NotEqual = refl
text_operator_at-number Contains = refl
text_operator_at-number StartsWith = refl
text_operator_at-number EndsWith = refl

abbrev flag_operator_number : FlagOperator → ℕ
flag_operator_number Is = 0
flag_operator_number IsNot = 1

abbrev flag_operator_at : ℕ → FlagOperator
flag_operator_at n = cond (n == 0) Is IsNot

flag_operator_at-number : (x : FlagOperator) → flag_operator_at (flag_operator_number x) ≡ x
flag_operator_at-number Is = refl
flag_operator_at-number IsNot = refl

-- what kind of part it is, the numbers of its attribute and operator, and its text
abbrev Part : Type 0
Part = ℕ × (ℕ × (ℕ × List ℕ))

abbrev test_part : Test → Part
test_part (Present (OfText a)) = (0, (text_attribute_number a, (0, [])))
test_part (Present (OfFlag a)) = (1, (flag_attribute_number a, (0, [])))
test_part (Text a o s) = (2, (text_attribute_number a, (text_operator_number o, s)))
test_part (Flag a o true) = (3, (flag_attribute_number a, (flag_operator_number o, [])))
test_part (Flag a o false) = (4, (flag_attribute_number a, (flag_operator_number o, [])))

abbrev parts : Expression → List Part
parts (Only test) = test_part test ∷ []
parts (Both left right) = parts left ++ (parts right ++ (5, (0, (0, []))) ∷ [])
parts (Either left right) = parts left ++ (parts right ++ (6, (0, (0, []))) ∷ [])
parts (Negated inner) = parts inner ++ (7, (0, (0, []))) ∷ []

abbrev on_one : (Expression → Expression) → List Expression → List Expression
on_one f [] = []
on_one f (x ∷ xs) = f x ∷ xs

abbrev on_two : (Expression → Expression → Expression) → List Expression → List Expression
on_two f [] = []
on_two f (y ∷ []) = []
on_two f (y ∷ x ∷ xs) = f x y ∷ xs

abbrev put_part : Part → List Expression → List Expression
put_part p xs =
    cond (p.0 == 0) (Only (Present (OfText (text_attribute_at p.1.0))) ∷ xs)
    (cond (p.0 == 1) (Only (Present (OfFlag (flag_attribute_at p.1.0))) ∷ xs)
    (cond (p.0 == 2) (Only (Text (text_attribute_at p.1.0) (text_operator_at p.1.1.0) p.1.1.1) ∷ xs)
    (cond (p.0 == 3) (Only (Flag (flag_attribute_at p.1.0) (flag_operator_at p.1.1.0) true) ∷ xs)
    (cond (p.0 == 4) (Only (Flag (flag_attribute_at p.1.0) (flag_operator_at p.1.1.0) false) ∷ xs)
    (cond (p.0 == 5) (on_two Both xs) (cond (p.0 == 6) (on_two Either xs) (on_one Negated xs)))))))

abbrev put_parts : List Part → List Expression → List Expression
put_parts [] xs = xs
put_parts (p ∷ ps) xs = put_parts ps (put_part p xs)

abbrev first_of_all : List Expression → Expression
first_of_all [] = Only (Present (OfFlag Active))
first_of_all (x ∷ xs) = x

abbrev from_parts : List Part → Expression
from_parts ps = first_of_all (put_parts ps [])

put_part-test : (t : Test) (xs : List Expression) → put_part (test_part t) xs ≡ Only t ∷ xs
put_part-test (Present (OfText a)) xs = ap (λ x. Only (Present (OfText x)) ∷ xs) (text_attribute_at-number a)
put_part-test (Present (OfFlag a)) xs = ap (λ x. Only (Present (OfFlag x)) ∷ xs) (flag_attribute_at-number a)
put_part-test (Text a o s) xs =
    ap (λ x. Only (Text x (text_operator_at (text_operator_number o)) s) ∷ xs) (text_attribute_at-number a)
    ∙ ap (λ x. Only (Text a x s) ∷ xs) (text_operator_at-number o)
put_part-test (Flag a o true) xs =
    ap (λ x. Only (Flag x (flag_operator_at (flag_operator_number o)) true) ∷ xs) (flag_attribute_at-number a)
    ∙ ap (λ x. Only (Flag a x true) ∷ xs) (flag_operator_at-number o)
put_part-test (Flag a o false) xs =
    ap (λ x. Only (Flag x (flag_operator_at (flag_operator_number o)) false) ∷ xs) (flag_attribute_at-number a)
    ∙ ap (λ x. Only (Flag a x false) ∷ xs) (flag_operator_at-number o)

-- the parts of an expression put it on top of what is there
put_parts-parts : (e : Expression) (ps : List Part) (xs : List Expression)
    → put_parts (parts e ++ ps) xs ≡ put_parts ps (e ∷ xs)
put_parts-parts (Only t) ps xs = ap (put_parts ps) (put_part-test t xs)
put_parts-parts (Both a b) ps xs =
    ap (λ l. put_parts l xs) (append_assoc (parts a) (parts b ++ (5, (0, (0, []))) ∷ []) ps)
    ∙ put_parts-parts a ((parts b ++ (5, (0, (0, []))) ∷ []) ++ ps) xs
    ∙ ap (λ l. put_parts l (a ∷ xs)) (append_assoc (parts b) ((5, (0, (0, []))) ∷ []) ps)
    ∙ put_parts-parts b ((5, (0, (0, []))) ∷ ps) (a ∷ xs)
put_parts-parts (Either a b) ps xs =
    ap (λ l. put_parts l xs) (append_assoc (parts a) (parts b ++ (6, (0, (0, []))) ∷ []) ps)
    ∙ put_parts-parts a ((parts b ++ (6, (0, (0, []))) ∷ []) ++ ps) xs
    ∙ ap (λ l. put_parts l (a ∷ xs)) (append_assoc (parts b) ((6, (0, (0, []))) ∷ []) ps)
    ∙ put_parts-parts b ((6, (0, (0, []))) ∷ ps) (a ∷ xs)
put_parts-parts (Negated a) ps xs =
    ap (λ l. put_parts l xs) (append_assoc (parts a) ((7, (0, (0, []))) ∷ []) ps)
    ∙ put_parts-parts a ((7, (0, (0, []))) ∷ ps) xs

pub from_parts-parts : (e : Expression) → from_parts (parts e) ≡ e
from_parts-parts e =
    ap (λ l. first_of_all (put_parts l [])) (sym (append-nil (parts e))) ∙ ap first_of_all (put_parts-parts e [] [])

abbrev pub expression_code : Coded Expression
expression_code =
    code_by (List Part) (coded_list (coded× coded_ℕ
    (coded× coded_ℕ (coded× coded_ℕ (coded_list coded_ℕ))))) parts from_parts from_parts-parts
