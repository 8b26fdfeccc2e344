-- What the reader reads, the grammar spells.
use Rattle.std.proofs.Common.{◌≡◌, ℕ, suc, zero, List, [], ◌∷◌, ◌++◌, Bool, true, false, length, Option, Some, None, refl, sym, ap, ◌∙◌, subst, append_assoc, append-nil}
use Rattle.std.specs.Option.{option_and_then}
use Rattle.std.specs.Prelude.{option_map, IfSome}
use Rattle.scim_filter.specs.Expressions.{Expression, Only, Negated}
use Rattle.scim_filter.specs.Grammar.{spaces, depth_limit, IsTest, presence, text_test, flag_test, IsItem, group, test, IsAll, item, and, IsFilter, all, or, IsText, whole}
use Rattle.scim_filter.specs.Grammar as grammar
use Rattle.scim_filter.specs.Parsing as parsing
use Rattle.scim_filter.specs.Parsing.{Parse, after_gap, after_connective, item_by, negation, condition, flag_operator, closed, join, more_step, more, chain, operand, filter, between, ended}
use Rattle.scim_filter.specs.declared.terms.Attribute.{Attribute}
use Rattle.scim_filter.specs.declared.terms.Attribute.TheVariants.{OfText, OfFlag}
use Rattle.scim_filter.specs.declared.terms.FlagAttribute.{FlagAttribute}
use Rattle.scim_filter.specs.declared.terms.TextOperator.{TextOperator}
use Rattle.scim_filter.specs.declared.terms.TextOperator.TheVariants.{Equal, NotEqual}
use Rattle.scim_filter.specs.declared.terms.FlagOperator.TheVariants.{Is, IsNot}
use Rattle.scim_filter.specs.declared.terms.Test.TheVariants as tests
use Rattle.scim_filter.specs.declared.words.Word.TheVariants.{Not, And, Or, Present, Compare, Truth, Name}
use Rattle.scim_filter.specs.declared.tokens.Token.{Token}
use Rattle.scim_filter.specs.declared.tokens.Token.TheVariants.{Gap, Open, Close, Plain, Quoted}
use Rattle.scim_filter.specs.declared.reader.Connective.{Connective}
use Rattle.scim_filter.specs.declared.reader.Connective.TheVariants as connectives

-- the tokens begin with some that spell the filter, and the rest follows
pub record Begins (Spells : List Token → Expression → Type 0) (ts : List Token) (e : Expression) (rest : List Token) : Type 0 where
  pub front : List Token
  pub is : ts ≡ front ++ rest
  pub spells : Spells front e

abbrev BeginsBy : (List Token → Expression → Type 0) → List Token → Option (Expression × List Token) → Type 0
BeginsBy Spells ts o = IfSome o (λ x. Begins Spells ts x.0 x.1)

abbrev Parses : (List Token → Expression → Type 0) → Parse → Type 0
Parses Spells parse = (ts : List Token) → BeginsBy Spells ts (parse ts)

-- ---- gaps and tests

gap_is : (ts : List Token) → (b : Bool) × (ts ≡ spaces b ++ after_gap ts)
unfolding after_gap
gap_is (Gap ∷ ts) = (true, refl)
gap_is ts = (false, refl)

abbrev IsCondition : Attribute → List Token → Expression → Type 0
IsCondition a ts e = (d : ℕ) → IsItem d (Plain (Name a) ∷ Gap ∷ ts) e

flag_spelled : (a : FlagAttribute) (o : TextOperator) (v : Bool) (ts : List Token)
    → BeginsBy (IsCondition (OfFlag a)) (Plain (Compare o) ∷ Gap ∷ Plain (Truth v) ∷ ts) (option_map (λ p. (Only (tests.Flag a p v), ts)) (flag_operator o))
flag_spelled a Equal v ts = record { front = Plain (Compare Equal) ∷ Gap ∷ Plain (Truth v) ∷ []; is = refl; spells = λ d. test (flag_test a Is v) }
flag_spelled a NotEqual v ts = record { front = Plain (Compare NotEqual) ∷ Gap ∷ Plain (Truth v) ∷ []; is = refl; spells = λ d. test (flag_test a IsNot v) }
flag_spelled a o v ts = tt

condition_spelled : (a : Attribute) → Parses (IsCondition a) (condition a)
unfolding condition
condition_spelled a (Plain Present ∷ ts) = record { front = Plain Present ∷ []; is = refl; spells = λ d. test (presence a) }
condition_spelled (OfText a) (Plain (Compare o) ∷ Gap ∷ Quoted s ∷ ts) = record { front = Plain (Compare o) ∷ Gap ∷ Quoted s ∷ []; is = refl; spells = λ d. test (text_test a o s) }
condition_spelled (OfFlag a) (Plain (Compare o) ∷ Gap ∷ Plain (Truth v) ∷ ts) = flag_spelled a o v ts
condition_spelled a ts = tt

-- ---- operands of a connective

abbrev sign : Connective → List Token
sign connectives.And = Gap ∷ Plain And ∷ Gap ∷ []
sign connectives.Or = Gap ∷ Plain Or ∷ Gap ∷ []

follows : (c : Connective) (ts : List Token) → IfSome (after_connective c ts) (λ us. ts ≡ sign c ++ us)
unfolding after_connective
follows connectives.And (Gap ∷ Plain And ∷ Gap ∷ ts) = refl
follows connectives.Or (Gap ∷ Plain Or ∷ Gap ∷ ts) = refl
follows c ts = tt

module _ (c : Connective) (operand : Parse) (One Some_of : List Token → Expression → Type 0) (one : (ts : List Token) (e : Expression) → One ts e → Some_of ts e)
    (next : (ts us : List Token) (a b : Expression) → Some_of ts a → One us b → Some_of (ts ++ (sign c ++ us)) (join c a b))
    (parses : Parses One operand) where
  -- a left operand has been read, and this remains
  abbrev GoesOn : List Token → List Token → Option (Expression × List Token) → Type 0
  GoesOn front ts o = BeginsBy Some_of (front ++ ts) o

  operand_next : (n : ℕ) (left : Expression) (front ts us : List Token) → Some_of front left → ts ≡ sign c ++ us
      → ((right : Expression) (front ts : List Token) → Some_of front right → GoesOn front ts (more c operand n right ts))
      → (o : Option (Expression × List Token)) → BeginsBy One us o → GoesOn front ts (option_and_then (λ p. more c operand n (join c left p.0) p.1) o)
  operand_next n left front ts us s is again None b = tt
  operand_next n left front ts us s is again (Some p) b =
      let k : front ++ ts ≡ (front ++ (sign c ++ b.front)) ++ p.1 = rw (is, b.is) (simp append_assoc refl) in
      subst (λ x. BeginsBy Some_of x (more c operand n (join c left p.0) p.1)) (sym k)
      (again (join c left p.0) (front ++ (sign c ++ b.front)) p.1 (next front b.front left p.0 s b.spells))

  step_spelled : (n : ℕ) (left : Expression) (front ts : List Token) → Some_of front left
      → ((right : Expression) (front ts : List Token) → Some_of front right → GoesOn front ts (more c operand n right ts))
      → (o : Option (List Token)) → IfSome o (λ us. ts ≡ sign c ++ us) → GoesOn front ts (more_step (λ right. more c operand n (join c left right)) operand left ts o)
  step_spelled n left front ts s again None h = record { front = front; is = refl; spells = s }
  step_spelled n left front ts s again (Some us) h = operand_next n left front ts us s h again (operand us) (parses us)

  more_spelled : (n : ℕ) (left : Expression) (front ts : List Token) → Some_of front left → GoesOn front ts (more c operand n left ts)
  unfolding more
  more_spelled zero left front ts s = record { front = front; is = refl; spells = s }
  more_spelled (suc n) left front ts s = step_spelled n left front ts s (λ r f us q. more_spelled n r f us q) (after_connective c ts) (follows c ts)

  first_spelled : (ts : List Token) (o : Option (Expression × List Token)) → BeginsBy One ts o → BeginsBy Some_of ts (option_and_then (λ p. more c operand (length p.1) p.0 p.1) o)
  first_spelled ts None b = tt
  first_spelled ts (Some p) b = rw b.is (more_spelled (length p.1) p.0 b.front p.1 (one b.front p.0 b.spells))

  chain_spelled : Parses Some_of (chain c operand)
  unfolding chain
  chain_spelled ts = first_spelled ts (operand ts) (parses ts)

-- ---- parentheses and items

-- the same tokens behind others, and another filter of the same tokens
behind : (P Q : List Token → Expression → Type 0) (front ts : List Token) (o : Option (Expression × List Token))
    → ((us : List Token) (e : Expression) → P us e → Q (front ++ us) e) → BeginsBy P ts o → BeginsBy Q (front ++ ts) o
behind P Q front ts None f b = tt
behind P Q front ts (Some p) f b = record {
  front = front ++ b.front;
  is = ap (λ x. front ++ x) b.is ∙ sym (append_assoc front b.front p.1);
  spells = f b.front p.0 b.spells;
}

mapped : (P : List Token → Expression → Type 0) (g : Expression → Expression) (ts : List Token) (o : Option (Expression × List Token))
    → BeginsBy (λ us e. P us (g e)) ts o → BeginsBy P ts (option_map (λ p. (g p.0, p.1)) o)
mapped P g ts None b = tt
mapped P g ts (Some p) b = record { front = b.front; is = b.is; spells = b.spells }

-- ---- parentheses and items

-- what follows an open parenthesis, with the one that closes
data IsGroup : ℕ → List Token → Expression → Type 0 where
  grouped : (b c : Bool) {d : ℕ} {ts : List Token} {e : Expression} → IsFilter d ts e → IsGroup (suc d) (spaces b ++ (ts ++ (spaces c ++ Close ∷ []))) e

opens : (d : ℕ) (ts : List Token) (e : Expression) → IsGroup d ts e → IsItem d (Open ∷ ts) e
opens d ts e (grouped b c f) = group b c f

negates : (a : Bool) (d : ℕ) (ts : List Token) (e : Expression) → IsGroup d ts e → IsItem d (Plain Not ∷ (spaces a ++ (Open ∷ ts))) (Negated e)
negates a d ts e (grouped b c f) = grammar.negation a b c f

module _ (d : ℕ) (parses : Parses (IsGroup d) (parsing.group d)) where
  negation_spelled : (a : Bool) (ts : List Token) → BeginsBy (IsItem d) (Plain Not ∷ (spaces a ++ ts)) (negation (parsing.group d) ts)
  unfolding negation
  negation_spelled true (Open ∷ ts) =
      mapped (IsItem d) Negated _ (parsing.group d ts) (behind (IsGroup d) _ (Plain Not ∷ Gap ∷ Open ∷ []) ts (parsing.group d ts) (negates true d) (parses ts))
  negation_spelled false (Open ∷ ts) =
      mapped (IsItem d) Negated _ (parsing.group d ts) (behind (IsGroup d) _ (Plain Not ∷ Open ∷ []) ts (parsing.group d ts) (negates false d) (parses ts))
  negation_spelled a ts = tt

  item_spelled : Parses (IsItem d) (item_by (parsing.group d))
  unfolding item_by
  item_spelled (Open ∷ ts) = behind (IsGroup d) (IsItem d) (Open ∷ []) ts (parsing.group d ts) (opens d) (parses ts)
  item_spelled (Plain Not ∷ ts) =
      let k = gap_is ts in
      subst (λ x. BeginsBy (IsItem d) (Plain Not ∷ x) (negation (parsing.group d) (after_gap ts))) (sym k.1) (negation_spelled k.0 (after_gap ts))
  item_spelled (Plain (Name a) ∷ Gap ∷ ts) =
      behind (IsCondition a) (IsItem d) (Plain (Name a) ∷ Gap ∷ []) ts (condition a ts) (λ us e i. i d) (condition_spelled a ts)
  item_spelled ts = tt

  all_spelled : Parses (IsAll d) (operand connectives.Or d)
  all_spelled = chain_spelled connectives.And (operand connectives.And d) (IsItem d) (IsAll d) (λ ts e i. item i) (λ ts us a b f i. and f i) item_spelled

  filter_spelled : Parses (IsFilter d) (filter d)
  filter_spelled = chain_spelled connectives.Or (operand connectives.Or d) (IsAll d) (IsFilter d) (λ ts e a. all a) (λ ts us a b f g. or f g) all_spelled

-- a filter between gaps, and what is made of it
between_spelled : {A : Type 0} (Q : List Token → A → Type 0) (ends : Expression → List Token → Option A) (d : ℕ)
    → ((b c : Bool) (front ts : List Token) (e : Expression) → IsFilter d front e → IfSome (ends e ts) (Q (spaces b ++ (front ++ (spaces c ++ ts)))))
    → (b : Bool) (ts : List Token) (o : Option (Expression × List Token)) → BeginsBy (IsFilter d) ts o
    → IfSome (option_and_then (λ p. ends p.0 (after_gap p.1)) o) (Q (spaces b ++ ts))
between_spelled Q ends d spelled b ts None f = tt
between_spelled Q ends d spelled b ts (Some p) f =
    let k = gap_is p.1 in
    let is : ts ≡ f.front ++ (spaces k.0 ++ after_gap p.1) = f.is ∙ ap (λ x. f.front ++ x) k.1 in
    subst (λ x. IfSome (ends p.0 (after_gap p.1)) (Q (spaces b ++ x))) (sym is) (spelled b k.0 f.front (after_gap p.1) p.0 f.spells)

all_between : {A : Type 0} (Q : List Token → A → Type 0) (ends : Expression → List Token → Option A) (d : ℕ) → Parses (IsGroup d) (parsing.group d)
    → ((b c : Bool) (front ts : List Token) (e : Expression) → IsFilter d front e → IfSome (ends e ts) (Q (spaces b ++ (front ++ (spaces c ++ ts)))))
    → (ts : List Token) → IfSome (between ends (filter d) ts) (Q ts)
all_between Q ends d parses spelled ts =
    let k = gap_is ts in
    subst (λ x. IfSome (between ends (filter d) ts) (Q x)) (sym k.1) (between_spelled Q ends d spelled k.0 (after_gap ts) (filter d (after_gap ts)) (filter_spelled d parses (after_gap ts)))

closed_spelled : (d : ℕ) (b c : Bool) (front ts : List Token) (e : Expression) → IsFilter d front e → BeginsBy (IsGroup (suc d)) (spaces b ++ (front ++ (spaces c ++ ts))) (closed e ts)
unfolding closed
closed_spelled d b c front (Close ∷ ts) e f = record { front = spaces b ++ (front ++ (spaces c ++ Close ∷ [])); is = simp append_assoc refl; spells = grouped b c f }
closed_spelled d b c front ts e f = tt

group_spelled : (d : ℕ) → Parses (IsGroup d) (parsing.group d)
unfolding parsing.group
group_spelled zero ts = tt
group_spelled (suc d) ts = all_between (λ us x. Begins (IsGroup (suc d)) us x.0 x.1) closed d (group_spelled d) (closed_spelled d) ts

-- ---- the whole text

ended_spelled : (b c : Bool) (front ts : List Token) (e : Expression) → IsFilter depth_limit front e → IfSome (ended e ts) (IsText (spaces b ++ (front ++ (spaces c ++ ts))))
ended_spelled b c front [] e f = rw append-nil (whole b c f)
ended_spelled b c front (t ∷ ts) e f = tt

-- Tokens of which the reader makes a filter are the text of it
pub text_spelled_by : (ts : List Token) (e : Expression) → parsing.read_filter ts ≡ Some e → IsText ts e
text_spelled_by ts e h = subst (λ x. IfSome x (IsText ts)) h (all_between IsText ended depth_limit (group_spelled depth_limit) ended_spelled ts)
