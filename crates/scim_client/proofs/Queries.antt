-- The parameters that are written in a query are read back.
use Rattle.std.proofs.Common.{◌≡◌, ℕ, suc, ◌^◌, ◌<◌, Bool, true, false, cond, List, [], ◌∷◌, ◌++◌, ◌&&◌, map, length, Option, Some, None, refl, ap, sym, ◌∙◌, arith, nat_lt}
use Rattle.std.specs.Prelude.{All, IfSome, IsUtf8, ℤ, pos, negsuc, neg_ℤ, Ok, codes, nat_le, option_map}
use Rattle.std.specs.Char.{is_ascii_digit}
use Rattle.std.specs.Fmt.{decimal, signed_decimal}
use Rattle.std.specs.List.{AllByRecursion, list_all}
use Rattle.std.specs.Ordering.{int_eq}
use Rattle.std.specs.Str.Lossy.{utf8_lossy}
use Rattle.std.specs.Str.Parse.{starts_with_minus}
use Rattle.std.proofs.lemmas.Bool.Decides.{nat_tests, Decides-int_eq}
use Rattle.std.proofs.lemmas.Fmt.{decimal_is_IsNumeral, length-decimal-le}
use Rattle.std.proofs.lemmas.List.Elements.{All-nil, All-cons, All-weaker}
use Rattle.std.proofs.lemmas.List.Sums.{AllPass-from_list_all}
use Rattle.std.proofs.lemmas.Str.{utf8_lossy-IsUtf8, IsUtf8-from_ascii}
use Rattle.std.proofs.lemmas.Str.Ascii.{IsAscii-from_all}
use Rattle.form_urlencoded.specs.Form.{decode, raw_pairs, extend_pairs}
use Rattle.form_urlencoded.proofs.FormLemmas.{IsBytePair, round_trip}
use Rattle.http_text.specs.Response.{line_with}
use Rattle.scim_http.specs.Numbers.{is_digits, digits_in, number_in}
use Rattle.scim_http.specs.Queries.{pair_of, value_in, parameter}
use Rattle.scim_http.specs.Searches.{start_in, count_in, number_read}
use Rattle.scim_client.specs.Requests.{with_parameter, start_value}
use Rattle.scim_client.specs.Spelling.{IsShortNumber}
use Rattle.scim_client.proofs.Lines.{both, decimal_is_digits}

-- ---- the texts of parameters

abbrev pub IsByte : ℕ → Type 0
IsByte b = b < 256

pub record IsText (text : List ℕ) : Type 0 where
  pub bytes : All IsByte text
  pub utf8 : IsUtf8 text

small_byte : (b : ℕ) → b < 128 → IsByte b
small_byte b small = omega arith

ascii_text : (text : List ℕ) → All (λ b. b < 128) text → IsText text
ascii_text text small = record { bytes = All-weaker (λ b. b < 128) IsByte small_byte text small; utf8 = IsUtf8-from_ascii text (IsAscii-from_all text small) }

digit_is_small : (b : ℕ) → is_ascii_digit b ≡ true → b < 128
digit_is_small b h = grind (arith, nat_tests)

digits_small : (text : List ℕ) → list_all is_ascii_digit text ≡ true → All (λ b. b < 128) text
digits_small text passes = All-weaker (λ b. is_ascii_digit b ≡ true) (λ b. b < 128) digit_is_small text (AllPass-from_list_all is_ascii_digit text passes)

abbrev is_small : ℕ → Bool
is_small b = nat_lt b 128

small_where : (b : ℕ) → is_small b ≡ true → b < 128
small_where b h = grind (arith, nat_tests)

closed_text : (text : List ℕ) → list_all is_small text ≡ true → IsText text
closed_text text passes = ascii_text text (All-weaker (λ b. is_small b ≡ true) (λ b. b < 128) small_where text (AllPass-from_list_all is_small text passes))

-- ---- pairs

abbrev lossless : List ℕ × List ℕ → List ℕ × List ℕ
lossless pair = (utf8_lossy pair.0, utf8_lossy pair.1)

abbrev decoded : List ℕ × List ℕ → List ℕ × List ℕ
decoded pair = (decode pair.0, decode pair.1)

pairs_decoded : (raw : List (List ℕ × List ℕ)) → map pair_of raw ≡ map lossless (map decoded raw)
pairs_decoded [] = refl
pairs_decoded (pair ∷ raw) = λ i. pair_of pair ∷ pairs_decoded raw i

pub record IsTextPair (pair : List ℕ × List ℕ) : Type 0 where
  pub name : IsText pair.0
  pub value : IsText pair.1

pair_kept : (pair : List ℕ × List ℕ) → IsTextPair pair → lossless pair ≡ pair
pair_kept pair is =
    let one = utf8_lossy-IsUtf8 pair.0 is.name.utf8 in
    let two = utf8_lossy-IsUtf8 pair.1 is.value.utf8 in
    λ i. (one i, two i)

pairs_kept : (pairs : List (List ℕ × List ℕ)) → AllByRecursion IsTextPair pairs → map lossless pairs ≡ pairs
pairs_kept [] all = refl
pairs_kept (pair ∷ pairs) all = let one = pair_kept pair all.0 in let rest = pairs_kept pairs all.1 in λ i. one i ∷ rest i

bytes_of : (pairs : List (List ℕ × List ℕ)) → AllByRecursion IsTextPair pairs → All IsBytePair pairs
bytes_of [] all = All-nil IsBytePair
bytes_of (pair ∷ pairs) all = All-cons IsBytePair pair pairs (all.0.name.bytes, all.0.value.bytes) (bytes_of pairs all.1)

-- pairs that were written are found by their names
written : (name : List ℕ) (pairs : List (List ℕ × List ℕ)) → AllByRecursion IsTextPair pairs → parameter name (extend_pairs [] pairs) ≡ value_in name pairs
written name pairs all =
    ap (value_in name) (pairs_decoded (raw_pairs (extend_pairs [] pairs)) ∙ ap (map lossless) (round_trip pairs (bytes_of pairs all)) ∙ pairs_kept pairs all)

-- ---- the query

abbrev pub query_with : (filter start count : Option (List ℕ)) → List ℕ
query_with filter start count =
    with_parameter (with_parameter (with_parameter [] (codes "filter") filter) (codes "startIndex") start) (codes "count") count

abbrev pairs_with : (filter start count : Option (List ℕ)) → List (List ℕ × List ℕ)
pairs_with filter start count = line_with (codes "filter") filter ++ (line_with (codes "startIndex") start ++ line_with (codes "count") count)

-- what is found in a query
pub record Reads (filter start count : Option (List ℕ)) : Type 0 where
  pub first : parameter (codes "filter") (query_with filter start count) ≡ filter
  pub second : parameter (codes "startIndex") (query_with filter start count) ≡ start
  pub third : parameter (codes "count") (query_with filter start count) ≡ count

abbrev pub IsTextOf : Option (List ℕ) → Type 0
IsTextOf value = IfSome value IsText

one_pair : (name : List ℕ) (value : Option (List ℕ)) (rest : List (List ℕ × List ℕ)) → IsText name → IsTextOf value → AllByRecursion IsTextPair rest
    → AllByRecursion IsTextPair (line_with name value ++ rest)
one_pair name None rest is text all = all
one_pair name (Some value) rest is text all = (record { name = is; value = text }, all)

last_pair : (name : List ℕ) (value : Option (List ℕ)) → IsText name → IsTextOf value → AllByRecursion IsTextPair (line_with name value)
last_pair name None is text = tt
last_pair name (Some value) is text = (record { name = is; value = text }, tt)

are_texts : (filter start count : Option (List ℕ)) → IsTextOf filter → IsTextOf start → IsTextOf count → AllByRecursion IsTextPair (pairs_with filter start count)
are_texts filter start count one two three =
    one_pair (codes "filter") filter (line_with (codes "startIndex") start ++ line_with (codes "count") count) (closed_text (codes "filter") refl) one
    (one_pair (codes "startIndex") start (line_with (codes "count") count) (closed_text (codes "startIndex") refl) two
    (last_pair (codes "count") count (closed_text (codes "count") refl) three))

-- the three parameters are written one after the other
record IsForm (filter start count : Option (List ℕ)) : Type 0 where
  whole : query_with filter start count ≡ extend_pairs [] (pairs_with filter start count)
  first : value_in (codes "filter") (pairs_with filter start count) ≡ filter
  second : value_in (codes "startIndex") (pairs_with filter start count) ≡ start
  third : value_in (codes "count") (pairs_with filter start count) ≡ count

is_form : (filter start count : Option (List ℕ)) → IsForm filter start count
is_form None None None = record { whole = refl; first = refl; second = refl; third = refl }
is_form None None (Some c) = record { whole = refl; first = refl; second = refl; third = refl }
is_form None (Some s) None = record { whole = refl; first = refl; second = refl; third = refl }
is_form None (Some s) (Some c) = record { whole = refl; first = refl; second = refl; third = refl }
is_form (Some f) None None = record { whole = refl; first = refl; second = refl; third = refl }
is_form (Some f) None (Some c) = record { whole = refl; first = refl; second = refl; third = refl }
is_form (Some f) (Some s) None = record { whole = refl; first = refl; second = refl; third = refl }
is_form (Some f) (Some s) (Some c) = record { whole = refl; first = refl; second = refl; third = refl }

pub reads : (filter start count : Option (List ℕ)) → IsTextOf filter → IsTextOf start → IsTextOf count → Reads filter start count
reads filter start count one two three =
    let form = is_form filter start count in
    let all = are_texts filter start count one two three in
    let pairs = pairs_with filter start count in
    record {
      first = ap (parameter (codes "filter")) form.whole ∙ written (codes "filter") pairs all ∙ form.first;
      second = ap (parameter (codes "startIndex")) form.whole ∙ written (codes "startIndex") pairs all ∙ form.second;
      third = ap (parameter (codes "count")) form.whole ∙ written (codes "count") pairs all ∙ form.third;
    }

-- ---- numbers

no_minus : (text : List ℕ) → list_all is_ascii_digit text ≡ true → starts_with_minus text ≡ false
no_minus [] passes = refl
no_minus (b ∷ text) passes = let digit : is_ascii_digit b ≡ true = grind (arith, nat_tests) in grind (arith, nat_tests)

decimal_is_short : (n : ℕ) → n < 10 ^ 18 → is_digits (decimal n) ≡ true
decimal_is_short n small =
    let short = length-decimal-le 18 n (omega arith) small (omega (arith, small)) in
    let number = decimal_is_IsNumeral n (omega (arith, small)) in
    let some = number.0.0 in
    both (nat_lt 0 (length (decimal n))) (nat_le (length (decimal n)) 18 && list_all is_ascii_digit (decimal n)) (grind (arith, nat_tests))
    (both (nat_le (length (decimal n)) 18) (list_all is_ascii_digit (decimal n)) (grind (arith, nat_tests)) (decimal_is_digits n (omega (arith, small))))

digits_read : (n : ℕ) → n < 10 ^ 18 → digits_in (decimal n) ≡ Some n
digits_read n small =
    let number = decimal_is_IsNumeral n (omega (arith, small)) in
    rw (decimal_is_short n small) (ap Some number.1)

pub number_read_back : (number : ℤ) → IsShortNumber number → number_in (signed_decimal number) ≡ Some number
number_read_back (pos n) small =
    rw (no_minus (decimal n) (decimal_is_digits n (omega (arith, small)))) (ap (option_map pos) (digits_read n small))
number_read_back (negsuc n) small = ap (option_map (λ m. neg_ℤ (pos m))) (digits_read (suc n) small)

minus_small : (text : List ℕ) → All (λ b. b < 128) text → All (λ b. b < 128) (45 ∷ text)
minus_small text small = All-cons (λ b. b < 128) 45 text (omega arith) small

pub number_text : (number : ℤ) → IsShortNumber number → IsText (signed_decimal number)
number_text (pos n) small = ascii_text (decimal n) (digits_small (decimal n) (decimal_is_digits n (omega (arith, small))))
number_text (negsuc n) small = ascii_text (45 ∷ decimal (suc n)) (minus_small (decimal (suc n)) (digits_small (decimal (suc n)) (decimal_is_digits (suc n) (omega (arith, small)))))

-- ---- the page

start_where : (start : ℤ) (test : Bool) → int_eq start (pos 1) ≡ test → IsShortNumber start
    → (start_in (cond test None (Some (signed_decimal start))) ≡ Ok start) × IsTextOf (cond test None (Some (signed_decimal start)))
start_where start true is small = let same : start ≡ pos 1 = (Decides-int_eq start (pos 1)).0 is in (ap Ok (sym same), tt)
start_where start false is small = (ap number_read (number_read_back start small), number_text start small)

pub start_read : (start : ℤ) → IsShortNumber start → (start_in (start_value start) ≡ Ok start) × IsTextOf (start_value start)
start_read start small = start_where start (int_eq start (pos 1)) refl small

pub count_read : (count : Option ℤ) → IfSome count IsShortNumber → (count_in (option_map signed_decimal count) ≡ Ok count) × IsTextOf (option_map signed_decimal count)
count_read None small = (refl, tt)
count_read (Some number) small = (rw (number_read_back number small) refl, number_text number small)
