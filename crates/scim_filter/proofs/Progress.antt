-- Reading token by token: the tokens so far, and those that the remaining text consists of, are those of all of it.
use Rattle.std.proofs.Common.{◌≡◌, ℕ, ◌<◌, ◌≤◌, List, [], ◌∷◌, ◌++◌, length, Some, refl, sym, ap, ◌∙◌, subst, inl, inr, arith, append_assoc, append-nil}
use Rattle.std.specs.Prelude.{Result, Ok, Err, IfOk, ◌⊎◌}
use Rattle.scim_key.specs.Outcome.{Gives}
use Rattle.scim_filter.specs.Expressions.{Expression}
use Rattle.scim_filter.specs.Grammar.{text_limit, IsText, Spells}
use Rattle.scim_filter.specs.Tokens.{Consists, nothing}
use Rattle.scim_filter.specs.Lexing.{or_unsupported, token_at}
use Rattle.scim_filter.specs.Parsing.{read_filter}
use Rattle.scim_filter.specs.declared.tokens.Token.{Token}
use Rattle.scim_filter.specs.declared.filters.FilterFault.{FilterFault}
use Rattle.scim_filter.specs.declared.filters.FilterFault.TheVariants.{Memory}
use Rattle.scim_filter.proofs.Chains.{some_supported}
use Rattle.scim_filter.proofs.Lexical.{Leads, leads, first_token, nothing_left, ok_same, one_way}
use Rattle.scim_filter.proofs.Grammatical.{reads_text}
use Rattle.scim_filter.proofs.Parsed.{text_spelled_by}

-- the tokens begin with those so far, and the rest of the text consists of the others
pub record GoesOn (rest : List ℕ) (front ts : List Token) : Type 0 where
  pub others : List Token
  pub is : ts ≡ front ++ others
  pub consists : Consists rest others

-- After these tokens, this is left of the text
pub record Keeps (text rest : List ℕ) (front : List Token) : Type 0 where
  pub onward : (ts : List Token) → Consists text ts → GoesOn rest front ts
  pub back : (us : List Token) → Consists rest us → Consists text (front ++ us)

pub keeps_start : (text : List ℕ) → Keeps text text []
keeps_start text = record {
  onward = λ ts c. record { others = ts; is = refl; consists = c };
  back = λ us c. c;
}

-- the first token is the one that was found
split : (rest more : List ℕ) (t : Token) (us : List Token) → 0 < length rest → token_at rest ≡ Ok (t, more) → Consists rest us → GoesOn more (t ∷ []) us
split rest more t us h e c =
    let f = first_token c h in
    let k : (f.first, f.rest) ≡ (t, more) = ok_same _ _ (sym f.found ∙ e) in
    record { others = f.others; is = f.all_of ∙ ap (λ x. x.0 ∷ f.others) k; consists = subst (λ (x : Token × List ℕ). Consists x.1 f.others) k f.consists }

pub keeps_step : (text rest more : List ℕ) (front : List Token) (t : Token) → 0 < length rest → token_at rest ≡ Ok (t, more) → Keeps text rest front → Keeps text more (front ++ t ∷ [])
keeps_step text rest more front t h e k = record {
  onward = λ ts c.
      let m = k.onward ts c in
      let p = split rest more t m.others h e m.consists in
      record { others = p.others; is = m.is ∙ ap (λ x. front ++ x) p.is ∙ sym (append_assoc front (t ∷ []) p.others); consists = p.consists };
  back = λ us c.
      let l : Leads rest (Ok (t, more)) = subst (Leads rest) e (leads rest) in
      rw append_assoc (k.back (t ∷ us) (l us c));
}

-- the text doesn't consist of tokens if none begins its rest
pub no_token : (text rest : List ℕ) (front ts : List Token) (x : FilterFault) → 0 < length rest → token_at rest ≡ Err x → Keeps text rest front → Consists text ts → ⊥
no_token text rest front ts x h e k c =
    let m = k.onward ts c in
    let p = first_token m.consists h in
    let q = p.found in cc

nothing_there : (bs : List ℕ) → length bs ≡ 0 → bs ≡ []
nothing_there [] e = refl
nothing_there (b ∷ bs) e = absurd (omega (arith, e))

-- if nothing remains, the text consists of the tokens so far, and of no others
pub consists_at_end : (text rest : List ℕ) (front : List Token) → length rest ≡ 0 → Keeps text rest front → Consists text front
consists_at_end text rest front e k = rw append-nil at (k.back [] (rw (nothing_there rest e) nothing))

pub only_at_end : (text rest : List ℕ) (front ts : List Token) → length rest ≡ 0 → Keeps text rest front → Consists text ts → ts ≡ front
only_at_end text rest front ts e k c =
    let m = k.onward ts c in
    let none : m.others ≡ [] = nothing_left (subst (λ (x : List ℕ). Consists x m.others) (nothing_there rest e) m.consists) in
    m.is ∙ ap (λ x. front ++ x) none ∙ append-nil front

-- no text spells two filters
pub one_reading : (text : List ℕ) (e f : Expression) → Spells text e → Spells text f → e ≡ f
one_reading text e f v w =
    let q : Some e ≡ Some f = sym (reads_text v.grammatical) ∙ ap read_filter (one_way v.consists w.tokens w.consists) ∙ reads_text w.grammatical in
    cc

-- ---- what a call of the code says of the definitions

pub fault_gives : {B : Type 0} (A : Type 0) (x : FilterFault) (e : B) → (x ≡ Memory) ⊎ A → (A → ⊥) → Gives Memory (Err x) (Ok e)
fault_gives A x e (inl m) f = inl m
fault_gives A x e (inr a) f = absurd (f a)

pub spelled : (text : List ℕ) (tokens : List Token) (r : Result Expression FilterFault) → length text ≤ text_limit → Consists text tokens → Gives Memory r (or_unsupported (read_filter tokens)) → IfOk r (λ f. Spells text f)
spelled text tokens (Ok f) short c g = record { short = short; tokens = tokens; consists = c; grammatical = text_spelled_by tokens f (some_supported (read_filter tokens) f g) }
spelled text tokens (Err x) short c g = tt

pub given : (tokens : List Token) (r : Result Expression FilterFault) (e : Expression) {ts : List Token} → ◌≡◌ {A = Result (List Token) FilterFault} (Ok ts) (Ok tokens) → IsText ts e → Gives Memory r (or_unsupported (read_filter tokens)) → Gives Memory r (Ok e)
given tokens r e {ts} same is g =
    let k : ts ≡ tokens = cc in
    let h : read_filter tokens ≡ Some e = ap read_filter (sym k) ∙ reads_text is in
    rw h at g
