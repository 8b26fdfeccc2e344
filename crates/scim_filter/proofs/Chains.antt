-- Reading the operands of a connective, one after the other.
use Rattle.std.proofs.Common.{◌≡◌, ℕ, suc, zero, ◌<◌, ◌≤◌, List, length, Option, Some, None, refl, ◌∙◌, inl, inr, arith}
use Rattle.std.specs.Prelude.{◌⊎◌, Ok, Err}
use Rattle.std.specs.Option.{option_and_then}
use Rattle.scim_filter.specs.Expressions.{Expression}
use Rattle.scim_filter.specs.Lexing.{or_unsupported}
use Rattle.scim_filter.specs.Parsing.{Parse, join, after_connective, more, chain}
use Rattle.scim_filter.specs.declared.filters.FilterFault.{FilterFault}
use Rattle.scim_filter.specs.declared.filters.FilterFault.TheVariants.{Memory}
use Rattle.scim_filter.specs.declared.tokens.Token.{Token}
use Rattle.scim_filter.specs.declared.reader.Connective.{Connective}

-- what is made of all tokens is made of the left operand so far and the tokens after it
pub data Onward (c : Connective) (operand : Parse) (all : Option (Expression × List Token)) (left : Expression) (rest : List Token) : Type 0 where
  onward : (n : ℕ) → length rest ≤ n → all ≡ more c operand n left rest → Onward c operand all left rest

module _ (c : Connective) (operand : Parse) where
  pub first : (ts rest : List Token) (e : Expression) → operand ts ≡ Some (e, rest) → Onward c operand (chain c operand ts) e rest
  unfolding chain
  first ts rest e h = onward (length rest) (omega arith) (rw h refl)

  pub no_first : (ts : List Token) → operand ts ≡ None → chain c operand ts ≡ None
  unfolding chain
  no_first ts h = rw h refl

  next_is : (n : ℕ) (left : Expression) (ts us : List Token) → after_connective c ts ≡ Some us
      → more c operand (suc n) left ts ≡ option_and_then (λ p. more c operand n (join c left p.0) p.1) (operand us)
  unfolding more
  next_is n left ts us h = rw h refl

  pub next : {all : Option (Expression × List Token)} {left : Expression} {ts : List Token} → Onward c operand all left ts → (right : Expression) (us rest : List Token)
      → after_connective c ts ≡ Some us → operand us ≡ Some (right, rest) → length rest < length ts → Onward c operand all (join c left right) rest
  next (onward zero l i) right us rest h k s = absurd (omega (arith, l, s))
  next {left = left} {ts = ts} (onward (suc n) l i) right us rest h k s = onward n (omega (arith, l, s)) (i ∙ next_is n left ts us h ∙ rw k refl)

  pub fails : {all : Option (Expression × List Token)} {left : Expression} {ts : List Token} → Onward c operand all left ts → (us : List Token)
      → after_connective c ts ≡ Some us → length us < length ts → operand us ≡ None → all ≡ None
  fails (onward zero l i) us h s k = absurd (omega (arith, l, s))
  fails {left = left} {ts = ts} (onward (suc n) l i) us h s k = i ∙ next_is n left ts us h ∙ rw k refl

  pub stops : {all : Option (Expression × List Token)} {left : Expression} {ts : List Token} → Onward c operand all left ts → after_connective c ts ≡ None → all ≡ Some (left, ts)
  unfolding more
  stops (onward zero l i) h = i
  stops (onward (suc n) l i) h = i ∙ rw h refl

-- ---- what a call says of the definitions

pub some_supported : {B : Type 0} (o : Option B) (b : B) → or_unsupported o ≡ Ok b → o ≡ Some b
some_supported None b e = absurd (cc)
some_supported (Some c) b e = cc

-- a fault of a part is the fault of the whole
pub fault_kept : {A B : Type 0} (o : Option A) (all : Option B) (x : FilterFault) → (o ≡ None → all ≡ None) → (x ≡ Memory) ⊎ (or_unsupported o ≡ Err x)
    → (x ≡ Memory) ⊎ (or_unsupported all ≡ Err x)
fault_kept o all x f (inl m) = inl m
fault_kept None all x f (inr k) = let none = f refl in inr (rw none (cc))
fault_kept (Some a) all x f (inr k) = absurd (cc)
