-- A text that is written as a JSON string is read as itself.
use Rattle.std.proofs.Common.{◌≡◌, ℕ, suc, ◌+◌, ◌/◌, ◌%◌, ◌<◌, List, [], ◌∷◌, ◌++◌, true, false, length, Option, Some, None, refl, sym, ap, ◌∙◌, arith, length-append, append_assoc, append-nil, nat_lt}
use Rattle.std.specs.Prelude.{option_map}
use Rattle.std.specs.Option.{option_and_then}
use Rattle.std.proofs.lemmas.Bool.Decides.{nat_tests}
use Rattle.json.specs.Token as tokens
use Rattle.json.specs.Json as json
use Rattle.json.specs.Json.{value}
use Rattle.json.specs.Lex as lex
use Rattle.json.specs.Print.{escape_letter, escape_byte, escape, quoted, print, print_from, ArePrintable}
use Rattle.json.proofs.Printed.Tokens.{tokens-print}
use Rattle.serde_json.specs.Data.{string}
use Rattle.serde_json.specs.Read.{of_json, max_depth, read}
use Rattle.std.specs.Char.{digit_char}
use Rattle.scim_filter.specs.Tokens.{quote_at, IsString}
use Rattle.scim_filter.proofs.Lexical.{by_cond}
use Rattle.scim_filter.proofs.Quotes.{quote_at-other}

print-string : (s : List ℕ) → print (tokens.string s ∷ []) ≡ quoted s
unfolding print_from
print-string s = append-nil (quoted s)

tokens-quoted : (s : List ℕ) → lex.tokens (quoted s) ≡ tokens.string s ∷ []
unfolding ArePrintable
tokens-quoted s = ap lex.tokens (sym (print-string s)) ∙ tokens-print (tokens.string s ∷ []) (tt, tt)

pub read-quoted : (s : List ℕ) → read (quoted s) ≡ Some (string s)
unfolding value
read-quoted s = ap (λ ts. option_and_then of_json (option_and_then (λ p. json.if_last p.0 p.1) (value max_depth ts))) (tokens-quoted s)

-- ---- no quote of an escaped text ends the string

-- the next quote is as far after these bytes as in what follows them
record Passes (front : List ℕ) : Type 0 where
  on : (bs : List ℕ) → quote_at false (front ++ bs) ≡ option_map (λ n. length front + n) (quote_at false bs)

added : (x y z : ℕ) (o : Option ℕ) → z ≡ x + y → option_map (λ n. x + n) (option_map (λ n. y + n) o) ≡ option_map (λ n. z + n) o
added x y z None e = refl
added x y z (Some n) e = ap Some (omega (arith, e))

suc_added : (o : Option ℕ) → option_map suc o ≡ option_map (λ n. 1 + n) o
suc_added None = refl
suc_added (Some n) = ap Some (omega arith)

two_added : (o : Option ℕ) → option_map suc (option_map suc o) ≡ option_map (λ n. 2 + n) o
two_added None = refl
two_added (Some n) = ap Some (omega arith)

none_added : (o : Option ℕ) → o ≡ option_map (λ n. 0 + n) o
none_added None = refl
none_added (Some n) = ap Some (omega arith)

passes_both : (a b : List ℕ) → Passes a → Passes b → Passes (a ++ b)
passes_both a b f g = record {
  on = λ bs.
      ap (quote_at false) (append_assoc a b bs) ∙ f.on (b ++ bs) ∙ ap (option_map (λ n. length a + n)) (g.on bs)
      ∙ added (length a) (length b) (length (a ++ b)) (quote_at false bs) (length-append a b);
}

passes_other : (b : ℕ) → (b ≡ 92 → ⊥) → (b ≡ 34 → ⊥) → Passes (b ∷ [])
passes_other b e f = record { on = λ bs. quote_at-other b bs e f ∙ suc_added (quote_at false bs) }

passes_escape : (c : ℕ) → Passes (92 ∷ c ∷ [])
unfolding quote_at
passes_escape c = record { on = λ bs. two_added (quote_at false bs) }

passes_digit : (d : ℕ) → d < 16 → Passes (digit_char d ∷ [])
passes_digit d h = passes_other (digit_char d) (λ e. grind (arith, nat_tests)) (λ e. grind (arith, nat_tests))

plain_byte : (b c : ℕ) → nat_lt 0 (escape_letter b) ≡ false → nat_lt 0 (escape_letter c) ≡ true → b ≡ c → ⊥
plain_byte b c f g e = let k = rw e at f in cc

byte_passes : (b : ℕ) → Passes (escape_byte b)
unfolding escape_byte
byte_passes b =
    by_cond Passes (nat_lt 0 (escape_letter b)) (92 ∷ escape_letter b ∷ []) _ (λ e. passes_escape (escape_letter b))
    (λ e. by_cond Passes (nat_lt b 32) _ (b ∷ [])
    (λ f.
    let small : b < 32 = grind (arith, nat_tests) in
    passes_both (92 ∷ 117 ∷ []) (48 ∷ 48 ∷ digit_char (b / 16) ∷ digit_char (b % 16) ∷ []) (passes_escape 117)
    (passes_both (48 ∷ []) (48 ∷ digit_char (b / 16) ∷ digit_char (b % 16) ∷ []) (passes_other 48 (λ q. omega (arith, q)) (λ q. omega (arith, q)))
    (passes_both (48 ∷ []) (digit_char (b / 16) ∷ digit_char (b % 16) ∷ []) (passes_other 48 (λ q. omega (arith, q)) (λ q. omega (arith, q)))
    (passes_both (digit_char (b / 16) ∷ []) (digit_char (b % 16) ∷ []) (passes_digit (b / 16) (omega arith)) (passes_digit (b % 16) (omega arith))))))
    (λ f. passes_other b (plain_byte b 92 e refl) (plain_byte b 34 e refl)))

passes : (s : List ℕ) → Passes (escape s)
passes [] = record { on = λ bs. none_added (quote_at false bs) }
passes (b ∷ bs) = passes_both (escape_byte b) (escape bs) (byte_passes b) (passes bs)

-- the text that is written is a JSON string of it
pub quoted_is_string : (s : List ℕ) → IsString s (quoted s)
unfolding quote_at
quoted_is_string s = record {
  body = escape s;
  quoted = refl;
  ends = (passes s).on (34 ∷ []) ∙ ap Some (omega arith);
  spells = read-quoted s;
}
