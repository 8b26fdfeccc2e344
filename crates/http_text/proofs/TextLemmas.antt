-- Texts of requests and responses, read back as the messages that they were written for.
use Rattle.std.proofs.Common.{◌≡◌, ℕ, ◌+◌, ◌/◌, ◌%◌, ◌<◌, ◌≤◌, Bool, true, false, cond, List, [], ◌∷◌, ◌++◌, map, refl, ap, sym, ◌∙◌, arith, length-append, append_assoc}
use Rattle.std.specs.Prelude.{All, ◌==◌, codes, reverse}
use Rattle.std.specs.Char.{is_ascii_digit}
use Rattle.std.specs.Fmt.{decimal}
use Rattle.std.specs.List.{flat_map, list_all}
use Rattle.std.specs.Str.Parse.{digits_value}
use Rattle.std.proofs.lemmas.Bool.{cond-false}
use Rattle.std.proofs.lemmas.Bool.Decides.{nat_tests}
use Rattle.std.proofs.lemmas.Fmt.{decimal_digit, decimal_step, decimal_is_IsNumeral}
use Rattle.std.proofs.lemmas.List.{append-nil, length-map}
use Rattle.std.proofs.lemmas.List.Elements.{All-nil, All-cons, All-head, All-tail, All-weaker}
use Rattle.std.proofs.lemmas.List.Sums.{AllPass-from_list_all}
use Rattle.http.specs.StatusCode.{IsStatusCode, code_digits}
use Rattle.httparse.specs.Grammar.{AllPass, is_ows, is_uri_byte, is_value_byte, skip_ows, IsToken, IsField, print_field, print_request, print_response}
use Rattle.httparse.specs.Spans.{name_and_value}
use Rattle.httparse.proofs.TrimLemmas.{AllPass-reverse, trim_ows_space}
use Rattle.http_text.specs.Message.{NamedValue, request_line, status_line}
use Rattle.http_text.specs.Forms.{request_form, response_form}
use Rattle.http_text.specs.Response.{phrase_of, field_line, message_text, response_head, response_text}
use Rattle.http_text.specs.Texts.{request_head, request_text, IsFieldLine, IsTarget, IsRead, TextsAreRead}

-- ---- field lines

line_read : (field : NamedValue) → IsFieldLine field → name_and_value (field_line field) ≡ field
line_read field is = let value = trim_ows_space field.1 is.front is.back in λ i. (field.0, value i)

lines_read : (fields : List NamedValue) → All IsFieldLine fields → map name_and_value (map field_line fields) ≡ fields
lines_read [] all = refl
lines_read (field ∷ fields) all =
    let here = line_read field (All-head IsFieldLine field fields all) in
    let rest = lines_read fields (All-tail IsFieldLine field fields all) in
    λ i. here i ∷ rest i

are_fields : (fields : List NamedValue) → All IsFieldLine fields → All IsField (map field_line fields)
are_fields [] all = All-nil IsField
are_fields (field ∷ fields) all =
    let is = All-head IsFieldLine field fields all in
    All-cons IsField (field_line field) (map field_line fields)
    (record { name = is.name; raw = All-cons (λ b. is_value_byte b ≡ true) 32 field.1 refl is.value })
    (are_fields fields (All-tail IsFieldLine field fields all))

-- a value of visible bytes
visible_is_value : (b : ℕ) → is_uri_byte b ≡ true → is_value_byte b ≡ true
visible_is_value b h = grind (arith, nat_tests)

visible_is_no_space : (b : ℕ) → is_uri_byte b ≡ true → is_ows b ≡ false
visible_is_no_space b h = grind (arith, nat_tests)

unskipped : (text : List ℕ) → AllPass is_uri_byte text → skip_ows text ≡ text
unskipped [] all = refl
unskipped (b ∷ text) all = cond-false _ _ _ (visible_is_no_space b (All-head (λ byte. is_uri_byte byte ≡ true) b text all))

pub IsFieldLine-visible : (name value : List ℕ) → IsToken name → AllPass is_uri_byte value → IsFieldLine (name, value)
IsFieldLine-visible name value token all = record {
  name = token;
  value = All-weaker (λ byte. is_uri_byte byte ≡ true) (λ byte. is_value_byte byte ≡ true) visible_is_value value all;
  front = unskipped value all;
  back = unskipped (reverse value) (AllPass-reverse is_uri_byte value all);
}

-- ---- status lines

digit_is : (d : ℕ) → d < 10 → is_ascii_digit (48 + d) ≡ true
digit_is d h = grind (arith, nat_tests)

three_digits : (a b c : ℕ) → is_ascii_digit a ≡ true → is_ascii_digit b ≡ true → is_ascii_digit c ≡ true → AllPass is_ascii_digit (a ∷ b ∷ c ∷ [])
three_digits a b c x y z =
    let P : ℕ → Type 0 = λ byte. is_ascii_digit byte ≡ true in
    All-cons P a (b ∷ c ∷ []) x (All-cons P b (c ∷ []) y (All-cons P c [] z (All-nil P)))

are_digits : (status : ℕ) → IsStatusCode status → AllPass is_ascii_digit (code_digits status)
are_digits status is =
    let low = is.0 in
    let high = is.1 in
    three_digits (48 + status / 100) (48 + status / 10 % 10) (48 + status % 10)
    (digit_is (status / 100) (omega arith)) (digit_is (status / 10 % 10) (omega arith)) (digit_is (status % 10) (omega arith))

code_decimal : (status : ℕ) → IsStatusCode status → decimal status ≡ code_digits status
code_decimal status is =
    let low = is.0 in
    let high = is.1 in
    let tens : 10 ≤ status / 10 = omega arith in
    let hundreds : status / 10 / 10 < 10 = omega arith in
    let same : status / 10 / 10 ≡ status / 100 = omega arith in
    decimal_step status (omega arith) (omega arith)
    ∙ ap (λ (t : List ℕ). t ++ (48 + status % 10) ∷ []) (decimal_step (status / 10) tens (omega arith) ∙ ap (λ (t : List ℕ). t ++ (48 + status / 10 % 10) ∷ []) (decimal_digit (status / 10 / 10) hundreds ∙ ap (λ n. (48 + n) ∷ []) same))

code_read : (status : ℕ) → IsStatusCode status → digits_value 10 (code_digits status) ≡ status
code_read status is =
    let high = is.1 in
    let number = decimal_is_IsNumeral status (omega arith) in
    ap (digits_value 10) (sym (code_decimal status is)) ∙ number.1

record IsPhrase (text : List ℕ) : Type 0 where
  all : AllPass is_value_byte text

pick : (b : Bool) (p : List ℕ) {q : List ℕ} → list_all is_value_byte p ≡ true → IsPhrase q → IsPhrase (cond b p q)
pick b p {q} x y = elim b as (λ v. IsPhrase (cond v p q)) [ true ↦ record { all = AllPass-from_list_all is_value_byte p x } | false ↦ y ]

no_phrase : IsPhrase []
no_phrase = record { all = All-nil (λ b. is_value_byte b ≡ true) }

phrase_is : (status : ℕ) → IsPhrase (phrase_of status)
phrase_is status =
    pick (status == 200) (codes "OK") refl
    (pick (status == 201) (codes "Created") refl
    (pick (status == 304) (codes "Not Modified") refl
    (pick (status == 400) (codes "Bad Request") refl
    (pick (status == 404) (codes "Not Found") refl
    (pick (status == 409) (codes "Conflict") refl
    (pick (status == 411) (codes "Length Required") refl
    (pick (status == 412) (codes "Precondition Failed") refl
    (pick (status == 413) (codes "Content Too Large") refl
    (pick (status == 415) (codes "Unsupported Media Type") refl
    (pick (status == 417) (codes "Expectation Failed") refl
    (pick (status == 431) (codes "Request Header Fields Too Large") refl
    (pick (status == 500) (codes "Internal Server Error") refl
    (pick (status == 501) (codes "Not Implemented") refl no_phrase)))))))))))))

-- ---- the texts

request_read : (method target : List ℕ) (fields : List NamedValue) (body : List ℕ) → IsToken method → IsTarget target → All IsFieldLine fields
    → IsRead request_form (request_text method target fields body) (record { head = record { start = request_line method target 1; fields = fields }; body = body })
request_read method target fields body token is all size few states =
    let lines = lines_read fields all in
    record {
      front = print_request (request_head method target fields);
      head = record {
        tree = request_head method target fields;
        reads = (record { method = token; target = (is.some, is.visible); target_text = is.text; minor = omega arith; fields = are_fields fields all }, sym (append-nil (print_request (request_head method target fields))));
        size = omega (arith, length-append (print_request (request_head method target fields)) body);
        fields = omega (arith, length-map fields field_line);
        parts = λ i. record { start = request_line method target 1; fields = sym lines i };
      };
      split = refl;
      body = states;
    }

response_read : (status : ℕ) (fields : List NamedValue) (body : List ℕ) → IsStatusCode status → All IsFieldLine fields
    → IsRead response_form (response_text status fields body) (record { head = record { start = status_line 1 status; fields = fields }; body = body })
response_read status fields body is all size few states =
    let lines = lines_read fields all in
    let code = code_read status is in
    record {
      front = print_response (response_head status fields);
      head = record {
        tree = response_head status fields;
        reads = (record { minor = omega arith; digits = (refl, are_digits status is); reason = let phrase = phrase_is status in phrase.all; fields = are_fields fields all }, sym (append-nil (print_response (response_head status fields))));
        size = omega (arith, length-append (print_response (response_head status fields)) body);
        fields = omega (arith, length-map fields field_line);
        parts = λ i. record { start = status_line 1 (sym code i); fields = sym lines i };
      };
      split = refl;
      body = states;
    }

pub texts_are_read : TextsAreRead
texts_are_read = record { request = request_read; response = response_read }

-- ---- a request's text, part by part

-- m the method, s a space, t the target, v the version, e the line's end, l the field lines
regroup : (m s t v e l body : List ℕ)
    → (m ++ (s ++ (t ++ ((s ++ v) ++ [])))) ++ (e ++ (l ++ (e ++ body)))
    ≡ (((((([] ++ m) ++ (s ++ t)) ++ (s ++ v)) ++ e) ++ (l ++ e)) ++ body)
regroup m s t v e l body = simp (append_assoc, append-nil)

pub request_parts : (method target : List ℕ) (fields : List NamedValue) (body : List ℕ)
    → message_text (method ++ (codes " " ++ (target ++ (codes " HTTP/1.1" ++ [])))) fields body
    ≡ request_text method target fields body
unfolding print_request
request_parts method target fields body =
    regroup method (32 ∷ []) target (codes "HTTP/1.1") (13 ∷ 10 ∷ []) (flat_map print_field (map field_line fields)) body
