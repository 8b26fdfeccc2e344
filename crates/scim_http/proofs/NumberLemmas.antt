-- What `parse` makes of a sign and digits.
use Rattle.std.proofs.Common.{◌≡◌, ℕ, ◌^◌, ◌<◌, ◌≤◌, Bool, true, false, cond, List, [], ◌∷◌, ◌&&◌, length, drop, refl, sym, ap, ◌∙◌, arith}
use Rattle.std.specs.Prelude.{ℤ, pos, neg_ℤ, None, Result, option_map}
use Rattle.std.specs.Result.{result_ok}
use mir.Syntax.{w64}
use Rattle.std.specs.Char.{is_ascii_digit}
use Rattle.std.specs.List.{list_all}
use Rattle.std.specs.Str.{all_ascii_digits}
use Rattle.std.specs.Str.Parse.{digits_value, ParsesSigned, starts_with_minus}
use Rattle.std.proofs.lemmas.Bool.{eqb-true}
use Rattle.std.proofs.lemmas.Bool.Decides.{nat_tests}
use Rattle.std.proofs.lemmas.Result.{Ok-from_Ok_iff}
use Rattle.std.proofs.lemmas.Str.Parse.{numerals_by_value, tells_all_ascii_digits, digits_value_short, parse_signed_minus, parse_signed_digits}
use Rattle.scim_http.specs.Numbers.{is_digits, without_minus, digits_in, number_in}

-- digits are a number that fits
record Fits (text : List ℕ) : Type 0 where
  digits : all_ascii_digits text ≡ true
  some : 0 < length text
  small : digits_value 10 text < 10 ^ 18

pub all_digits : (text : List ℕ) → list_all is_ascii_digit text ≡ all_ascii_digits text
all_digits [] = refl
all_digits (byte ∷ text) = ap (λ rest. is_ascii_digit byte && rest) (all_digits text)

fits : (text : List ℕ) → is_digits text ≡ true → Fits text
fits text is =
    let passed : list_all is_ascii_digit text ≡ true = grind (arith, nat_tests) in
    let digits : all_ascii_digits text ≡ true = sym (all_digits text) ∙ passed in
    let some : 0 < length text = grind (arith, nat_tests) in
    let short : length text ≤ 18 = grind (arith, nat_tests) in
    record { digits = digits; some = some; small = digits_value_short (numerals_by_value _ tells_all_ascii_digits) text 18 digits short }

parsed_where : (text : List ℕ) {E : Type 0} (r : Result ℤ E) (minus : Bool) → starts_with_minus text ≡ minus → is_digits (cond minus (drop 1 text) text) ≡ true → ParsesSigned w64 10 text r
    → result_ok r ≡ cond minus (option_map (λ n. neg_ℤ (pos n)) (digits_in (drop 1 text))) (option_map pos (digits_in text))
parsed_where text r true begins is h =
    let f = fits (drop 1 text) is in
    let e = Ok-from_Ok_iff r _ _ (parse_signed_minus (numerals_by_value _ tells_all_ascii_digits) w64 text r h (eqb-true _ 45 begins)) (f.digits, f.some, omega (arith, f.small)) in
    rw (e, is) refl
parsed_where text r false begins is h =
    let f = fits text is in
    let e = Ok-from_Ok_iff r _ _ (parse_signed_digits (numerals_by_value _ tells_all_ascii_digits) w64 text r h f.digits) (f.some, omega (arith, f.small)) in
    rw (e, is) refl

pub parsed : (text : List ℕ) {E : Type 0} (r : Result ℤ E) → is_digits (without_minus text) ≡ true → ParsesSigned w64 10 text r → result_ok r ≡ number_in text
parsed text r is h = parsed_where text r (starts_with_minus text) refl is h

none_where : (text : List ℕ) (minus : Bool) → is_digits (cond minus (drop 1 text) text) ≡ false
    → None ≡ cond minus (option_map (λ n. neg_ℤ (pos n)) (digits_in (drop 1 text))) (option_map pos (digits_in text))
none_where text true is = rw is refl
none_where text false is = rw is refl

pub unparsed : (text : List ℕ) → is_digits (without_minus text) ≡ false → None ≡ number_in text
unparsed text is = none_where text (starts_with_minus text) is
