-- How a text spells a filter.
use Rattle.std.specs.Prelude.{ℕ, suc, ◌≤◌, List, [], ◌∷◌, ◌++◌, length, Bool, true, false}
use Rattle.scim_filter.specs.declared.filters.TheConstants.{TEXT_LIMIT}
use Rattle.scim_filter.specs.declared.reader.TheConstants.{DEPTH_LIMIT}
use Rattle.scim_filter.specs.Expressions.{Expression, Only, Both, Either, Negated}
use Rattle.scim_filter.specs.Tokens.{Consists}
use Rattle.scim_filter.specs.declared.terms.TextAttribute.{TextAttribute}
use Rattle.scim_filter.specs.declared.terms.FlagAttribute.{FlagAttribute}
use Rattle.scim_filter.specs.declared.terms.Attribute.{Attribute}
use Rattle.scim_filter.specs.declared.terms.Attribute.TheVariants.{OfText, OfFlag}
use Rattle.scim_filter.specs.declared.terms.TextOperator.{TextOperator}
use Rattle.scim_filter.specs.declared.terms.TextOperator.TheVariants.{Equal, NotEqual}
use Rattle.scim_filter.specs.declared.terms.FlagOperator.{FlagOperator}
use Rattle.scim_filter.specs.declared.terms.FlagOperator.TheVariants.{Is, IsNot}
use Rattle.scim_filter.specs.declared.terms.Test.{Test}
use Rattle.scim_filter.specs.declared.terms.Test.TheVariants as tests
use Rattle.scim_filter.specs.declared.words.Word.TheVariants.{Not, And, Or, Present, Compare, Truth, Name}
use Rattle.scim_filter.specs.declared.tokens.Token.{Token}
use Rattle.scim_filter.specs.declared.tokens.Token.TheVariants.{Gap, Open, Close, Plain, Quoted}

-- The most bytes that a text may have, and how deep its parentheses may be nested
abbrev pub text_limit : ℕ
text_limit = TEXT_LIMIT

abbrev pub depth_limit : ℕ
depth_limit = DEPTH_LIMIT

-- any number of spaces: a gap, or none
abbrev pub spaces : Bool → List Token
spaces false = []
spaces true = Gap ∷ []

-- booleans are compared only by `eq` and `ne`
abbrev pub as_text : FlagOperator → TextOperator
as_text Is = Equal
as_text IsNot = NotEqual

-- a test: an attribute and `pr`; or an attribute, an operator for its type, and a value of that type
pub data IsTest : List Token → Test → Type 0 where
  presence : (a : Attribute) → IsTest (Plain (Name a) ∷ Gap ∷ Plain Present ∷ []) (tests.Present a)
  text_test : (a : TextAttribute) (o : TextOperator) (s : List ℕ)
      → IsTest (Plain (Name (OfText a)) ∷ Gap ∷ Plain (Compare o) ∷ Gap ∷ Quoted s ∷ []) (tests.Text a o s)
  flag_test : (a : FlagAttribute) (o : FlagOperator) (v : Bool)
      → IsTest (Plain (Name (OfFlag a)) ∷ Gap ∷ Plain (Compare (as_text o)) ∷ Gap ∷ Plain (Truth v)
      ∷ []) (tests.Flag a o v)

-- The number says how deep the parentheses of the tokens may be nested
mutual
  -- "not" sp "(" sp filter sp ")" | "(" sp filter sp ")" | test
  pub data IsItem : ℕ → List Token → Expression → Type 0 where
    negation : (a b c : Bool) {d : ℕ} {ts : List Token} {e : Expression} → IsFilter d ts e
        → IsItem (suc d) (Plain Not ∷ (spaces a ++ (Open ∷ (spaces b ++ (ts ++ (spaces c ++ Close ∷ [])))))) (Negated e)
    group : (b c : Bool) {d : ℕ} {ts : List Token} {e : Expression} → IsFilter d ts e
        → IsItem (suc d) (Open ∷ (spaces b ++ (ts ++ (spaces c ++ Close ∷ [])))) e
    test : {d : ℕ} {ts : List Token} {t : Test} → IsTest ts t → IsItem d ts (Only t)

  -- item *( SP "and" SP item ), grouped to the left
  pub data IsAll : ℕ → List Token → Expression → Type 0 where
    item : {d : ℕ} {ts : List Token} {e : Expression} → IsItem d ts e → IsAll d ts e
    and : {d : ℕ} {ts us : List Token} {a b : Expression} → IsAll d ts a → IsItem d us b
        → IsAll d (ts ++ (Gap ∷ Plain And ∷ Gap ∷ us)) (Both a b)

  -- all *( SP "or" SP all ), grouped to the left
  pub data IsFilter : ℕ → List Token → Expression → Type 0 where
    all : {d : ℕ} {ts : List Token} {e : Expression} → IsAll d ts e → IsFilter d ts e
    or : {d : ℕ} {ts us : List Token} {a b : Expression} → IsFilter d ts a → IsAll d us b
        → IsFilter d (ts ++ (Gap ∷ Plain Or ∷ Gap ∷ us)) (Either a b)

-- sp filter sp
pub data IsText : List Token → Expression → Type 0 where
  whole : (a b : Bool) {ts : List Token} {e : Expression} → IsFilter depth_limit ts e
      → IsText (spaces a ++ (ts ++ spaces b)) e

-- The text spells the filter
pub record Spells (text : List ℕ) (filter : Expression) : Type 0 where
  pub short : length text ≤ text_limit
  pub tokens : List Token
  pub consists : Consists text tokens
  pub grammatical : IsText tokens filter
