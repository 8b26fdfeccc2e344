-- A filter at the front of a list of tokens, as the code reads it, and the tokens after it.
use Rattle.std.specs.Prelude.{ℕ, zero, suc, List, [], ◌∷◌, length, Option, Some, None, option_map}
use Rattle.std.specs.Option.{option_and_then}
use Rattle.scim_filter.specs.Expressions.{Expression, Only, Both, Either, Negated}
use Rattle.scim_filter.specs.Grammar.{depth_limit}
use Rattle.scim_filter.specs.declared.terms.Attribute.{Attribute}
use Rattle.scim_filter.specs.declared.terms.Attribute.TheVariants.{OfText, OfFlag}
use Rattle.scim_filter.specs.declared.terms.TextOperator.{TextOperator}
use Rattle.scim_filter.specs.declared.terms.TextOperator.TheVariants.{Equal, NotEqual}
use Rattle.scim_filter.specs.declared.terms.FlagOperator.{FlagOperator}
use Rattle.scim_filter.specs.declared.terms.FlagOperator.TheVariants.{Is, IsNot}
use Rattle.scim_filter.specs.declared.terms.Test.TheVariants as tests
use Rattle.scim_filter.specs.declared.words.Word.TheVariants.{Not, And, Or, Present, Compare, Truth, Name}
use Rattle.scim_filter.specs.declared.tokens.Token.{Token}
use Rattle.scim_filter.specs.declared.tokens.Token.TheVariants.{Gap, Open, Close, Plain, Quoted}
use Rattle.scim_filter.specs.declared.reader.Connective.{Connective}
use Rattle.scim_filter.specs.declared.reader.Connective.TheVariants as connectives

abbrev pub Parse : Type 0
Parse = List Token → Option (Expression × List Token)

-- the tokens, without a gap at their front
unfoldable pub after_gap : List Token → List Token
after_gap (Gap ∷ ts) = ts
after_gap ts = ts

-- ---- a test

abbrev pub flag_operator : TextOperator → Option FlagOperator
flag_operator Equal = Some Is
flag_operator NotEqual = Some IsNot
flag_operator o = None

-- what follows the name of an attribute and a gap
unfoldable pub condition : Attribute → Parse
condition a (Plain Present ∷ ts) = Some (Only (tests.Present a), ts)
condition (OfText a) (Plain (Compare o) ∷ Gap ∷ Quoted s ∷ ts) = Some (Only (tests.Text a o s), ts)
condition (OfFlag a) (Plain (Compare o) ∷ Gap ∷ Plain (Truth v) ∷ ts) =
    option_map (λ p. (Only (tests.Flag a p v), ts)) (flag_operator o)
condition a ts = None

-- ---- an item, if this reads what follows an open parenthesis

unfoldable pub negation : Parse → Parse
negation group (Open ∷ ts) = option_map (λ p. (Negated p.0, p.1)) (group ts)
negation group ts = None

unfoldable pub item_by : Parse → Parse
item_by group (Open ∷ ts) = group ts
item_by group (Plain Not ∷ ts) = negation group (after_gap ts)
item_by group (Plain (Name a) ∷ Gap ∷ ts) = condition a ts
item_by group ts = None

-- ---- operands of a connective, grouped to the left

abbrev pub join : Connective → Expression → Expression → Expression
join connectives.And = Both
join connectives.Or = Either

-- what follows the connective between two gaps
unfoldable pub after_connective : Connective → List Token → Option (List Token)
after_connective connectives.And (Gap ∷ Plain And ∷ Gap ∷ ts) = Some ts
after_connective connectives.Or (Gap ∷ Plain Or ∷ Gap ∷ ts) = Some ts
after_connective c ts = None

abbrev pub more_step : (Expression → Parse) → Parse → Expression → List Token → Option (List Token)
    → Option (Expression × List Token)
more_step more operand left ts None = Some (left, ts)
more_step more operand left ts (Some us) = option_and_then (λ p. more p.0 p.1) (operand us)

-- The number bounds the operands. The count of the tokens is always enough
unfoldable pub more : Connective → Parse → ℕ → Expression → Parse
more c operand zero left ts = Some (left, ts)
more c operand (suc n) left ts =
    more_step (λ right. more c operand n (join c left right)) operand left ts (after_connective c ts)

unfoldable pub chain : Connective → Parse → Parse
chain c operand ts = option_and_then (λ p. more c operand (length p.1) p.0 p.1) (operand ts)

-- ---- a filter between gaps, and what is made of it and of the tokens after it

abbrev pub between : {A : Type 0} → (Expression → List Token → Option A) → Parse → List Token → Option A
between ends filter ts = option_and_then (λ p. ends p.0 (after_gap p.1)) (filter (after_gap ts))

unfoldable pub closed : Expression → Parse
closed e (Close ∷ ts) = Some (e, ts)
closed e ts = None

-- what follows an open parenthesis, nested no deeper than the number
unfoldable pub group : ℕ → Parse
group zero ts = None
group (suc d) ts = between closed (chain connectives.Or (chain connectives.And (item_by (group d)))) ts

-- the operands of each connective
abbrev pub operand : Connective → ℕ → Parse
operand connectives.And d = item_by (group d)
operand connectives.Or d = chain connectives.And (item_by (group d))

abbrev pub filter : ℕ → Parse
filter d = chain connectives.Or (operand connectives.Or d)

abbrev pub ended : Expression → List Token → Option Expression
ended e [] = Some e
ended e (t ∷ ts) = None

-- the filter that all tokens spell
abbrev pub read_filter : List Token → Option Expression
read_filter ts = between ended (filter depth_limit) ts
