-- A text as a JSON string, written after what is there.
use Rattle.std.proofs.Common.{◌≡◌, ℕ, List, [], ◌∷◌, ◌++◌, ap, subst, sym, ◌∙◌, append-nil}
use Rattle.std.specs.Str.{IsUtf8}
use Rattle.std.proofs.lemmas.Str.{IsUtf8-append}
use Rattle.json.specs.Print.{print, print_from, quoted}
use Rattle.json.specs.Token.{Token, string}

pub printed_alone : (text : List ℕ) → print (string text ∷ []) ≡ quoted text
unfolding print_from
printed_alone text = append-nil (quoted text)

-- a writer that began after `old` has `before` in front of its tokens, and printed one text
pub record IsWritten (items old text : List ℕ) : Type 0 where
  pub value : items ≡ old ++ quoted text
  pub utf8 : IsUtf8 items

pub written : (items before old text : List ℕ) (tokens : List Token) → items ≡ before ++ print tokens → before ≡ old → tokens ≡ string text ∷ []
    → IsUtf8 old → IsUtf8 (print tokens) → IsWritten items old text
written items before old text tokens is same one lawful valid =
    let value : items ≡ old ++ quoted text = is ∙ (λ i. same i ++ print (one i)) ∙ ap (λ (t : List ℕ). old ++ t) (printed_alone text) in
    let whole : IsUtf8 (old ++ print tokens) = IsUtf8-append old (print tokens) lawful valid in
    record { value = value; utf8 = subst IsUtf8 (sym (is ∙ ap (λ (t : List ℕ). t ++ print tokens) same)) whole }
