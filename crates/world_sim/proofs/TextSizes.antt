-- How long the heads of requests and of responses are at most.
use Rattle.std.proofs.Common.{◌≡◌, ℕ, ◌+◌, ◌*◌, ◌≤◌, Bool, true, false, cond, List, [], ◌∷◌, ◌++◌, length, map, Option, Some, None, refl, ap, arith, length-append, ◌==◌}
use Rattle.std.specs.List.{flat_map}
use Rattle.std.proofs.lemmas.Bool.{leb-true}
use Rattle.http.specs.StatusCode.{code_digits}
use Rattle.httparse.specs.Grammar.{print_field, print_request, print_response}
use Rattle.form_urlencoded.specs.Form.{is_unchanged, serialize_byte, byte_serialize, append_pair}
use Rattle.percent_encoding.specs.Percent.{percent_encode_byte}
use Rattle.scim_key.specs.declared.records.Kind.{Kind}
use Rattle.scim_key.specs.declared.records.Kind.TheVariants as kinds
use Rattle.scim_resource.specs.Locations.{is_unreserved, escaped_byte, escaped, collection_path, location_text}
use Rattle.http_text.specs.Message.{NamedValue}
use Rattle.http_text.specs.Response.{Line, field_line, phrase_of, response_text, written_lines}
use Rattle.http_text.specs.Texts.{request_text}

-- ---- field lines

abbrev pub printed : List NamedValue → List ℕ
printed fields = flat_map print_field (map field_line fields)

-- a value that is there has at most this many bytes
abbrev pub IsWithin : ℕ → Option (List ℕ) → Type 0
IsWithin n value = (text : List ℕ) → value ≡ Some text → length text ≤ n

pub no_lines : length (printed (written_lines [])) ≤ 0
no_lines = omega arith

line_sum : (name text rest : List ℕ) (n q v r : ℕ) → n ≡ length (((name ++ 58 ∷ 32 ∷ text) ++ 13 ∷ 10 ∷ []) ++ rest) → length name ≤ q → length text ≤ v → length rest ≤ r → n ≤ q + v + 4 + r
line_sum name text rest n q v r is named short most =
    omega (arith, is, named, short, most, length-append ((name ++ 58 ∷ 32 ∷ text) ++ 13 ∷ 10 ∷ []) rest, length-append (name ++ 58 ∷ 32 ∷ text) (13 ∷ 10 ∷ []), length-append name (58 ∷ 32 ∷ text))

pub with_line : (name : List ℕ) (value : Option (List ℕ)) (lines : List Line) (q v r : ℕ) → length name ≤ q → IsWithin v value → length (printed (written_lines lines)) ≤ r
    → length (printed (written_lines ((name, value) ∷ lines))) ≤ q + v + 4 + r
with_line name None lines q v r named short rest = omega (arith, rest)
with_line name (Some text) lines q v r named short rest =
    let whole : printed (written_lines ((name, Some text) ∷ lines)) ≡ ((name ++ 58 ∷ 32 ∷ text) ++ 13 ∷ 10 ∷ []) ++ printed (written_lines lines) = refl in
    line_sum name text (printed (written_lines lines)) _ q v r (ap (λ (t : List ℕ). length t) whole) named (short text refl) rest

-- ---- heads

-- the bytes of a request besides its method, its target, its field lines and its body
head_sum : (method target lines body : List ℕ) (k m t n : ℕ)
    → k ≡ length (((((method ++ 32 ∷ target) ++ 32 ∷ 72 ∷ 84 ∷ 84 ∷ 80 ∷ 47 ∷ 49 ∷ 46 ∷ 49 ∷ []) ++ 13 ∷ 10 ∷ []) ++ (lines ++ 13 ∷ 10 ∷ [])) ++ body)
    → length method ≤ m → length target ≤ t → length lines ≤ n → k ≤ m + t + n + 14 + length body
head_sum method target lines body k m t n is method_short target_short short =
    let start = method ++ 32 ∷ target in
    let version = start ++ 32 ∷ 72 ∷ 84 ∷ 84 ∷ 80 ∷ 47 ∷ 49 ∷ 46 ∷ 49 ∷ [] in
    omega (
      arith,
      is,
      method_short,
      target_short,
      short,
      length-append ((version ++ 13 ∷ 10 ∷ []) ++ (lines ++ 13 ∷ 10 ∷ [])) body,
      length-append (version ++ 13 ∷ 10 ∷ []) (lines ++ 13 ∷ 10 ∷ []),
      length-append version (13 ∷ 10 ∷ []),
      length-append start (32 ∷ 72 ∷ 84 ∷ 84 ∷ 80 ∷ 47 ∷ 49 ∷ 46 ∷ 49 ∷ []),
      length-append method (32 ∷ target),
      length-append lines (13 ∷ 10 ∷ []),
    )

pub request_most : (method target : List ℕ) (fields : List NamedValue) (body : List ℕ) (m t n : ℕ) → length method ≤ m → length target ≤ t → length (printed fields) ≤ n
    → length (request_text method target fields body) ≤ m + t + n + 14 + length body
unfolding print_request
request_most method target fields body m t n method_short target_short short =
    let whole : request_text method target fields body
    ≡ ((((method ++ 32 ∷ target) ++ 32 ∷ 72 ∷ 84 ∷ 84 ∷ 80 ∷ 47 ∷ 49 ∷ 46 ∷ 49 ∷ []) ++ 13 ∷ 10 ∷ []) ++ (printed fields ++ 13 ∷ 10 ∷ [])) ++ body = refl in
    head_sum method target (printed fields) body _ m t n (ap (λ (t : List ℕ). length t) whole) method_short target_short short

-- no phrase has more bytes
cond_short : (b : Bool) (x y : List ℕ) → length x ≤ 31 → length y ≤ 31 → length (cond b x y) ≤ 31
cond_short true x y here other = here
cond_short false x y here other = other

phrase_short : (status : ℕ) → length (phrase_of status) ≤ 31
phrase_short status =
    cond_short (status == 200) _ _ (leb-true _ _ refl) (cond_short (status == 201) _ _ (leb-true _ _ refl) (cond_short (status == 304) _ _ (leb-true _ _ refl) (cond_short (status == 400) _ _ (leb-true _ _ refl)
    (cond_short (status == 404) _ _ (leb-true _ _ refl) (cond_short (status == 409) _ _ (leb-true _ _ refl) (cond_short (status == 411) _ _ (leb-true _ _ refl) (cond_short (status == 412) _ _ (leb-true _ _ refl)
    (cond_short (status == 413) _ _ (leb-true _ _ refl) (cond_short (status == 415) _ _ (leb-true _ _ refl) (cond_short (status == 417) _ _ (leb-true _ _ refl) (cond_short (status == 431) _ _ (leb-true _ _ refl)
    (cond_short (status == 500) _ _ (leb-true _ _ refl) (cond_short (status == 501) _ _ (leb-true _ _ refl) (leb-true _ _ refl))))))))))))))

reply_sum : (digits phrase lines body : List ℕ) (k n : ℕ) → length digits ≡ 3
    → k ≡ length (((((72 ∷ 84 ∷ 84 ∷ 80 ∷ 47 ∷ 49 ∷ 46 ∷ 49 ∷ 32 ∷ digits) ++ 32 ∷ phrase) ++ 13 ∷ 10 ∷ []) ++ (lines ++ 13 ∷ 10 ∷ [])) ++ body)
    → length phrase ≤ 31 → length lines ≤ n → k ≤ n + 48 + length body
reply_sum digits phrase lines body k n three is phrase_most short =
    let start = 72 ∷ 84 ∷ 84 ∷ 80 ∷ 47 ∷ 49 ∷ 46 ∷ 49 ∷ 32 ∷ digits in
    omega (
      arith,
      is,
      three,
      phrase_most,
      short,
      length-append (((start ++ 32 ∷ phrase) ++ 13 ∷ 10 ∷ []) ++ (lines ++ 13 ∷ 10 ∷ [])) body,
      length-append ((start ++ 32 ∷ phrase) ++ 13 ∷ 10 ∷ []) (lines ++ 13 ∷ 10 ∷ []),
      length-append (start ++ 32 ∷ phrase) (13 ∷ 10 ∷ []),
      length-append start (32 ∷ phrase),
      length-append lines (13 ∷ 10 ∷ []),
    )

-- the bytes of a response besides its field lines and its body
pub response_most : (status : ℕ) (fields : List NamedValue) (body : List ℕ) (n : ℕ) → length (printed fields) ≤ n → length (response_text status fields body) ≤ n + 48 + length body
unfolding print_response
response_most status fields body n short =
    let whole : response_text status fields body
    ≡ ((((72 ∷ 84 ∷ 84 ∷ 80 ∷ 47 ∷ 49 ∷ 46 ∷ 49 ∷ 32 ∷ code_digits status) ++ 32 ∷ phrase_of status) ++ 13 ∷ 10 ∷ []) ++ (printed fields ++ 13 ∷ 10 ∷ [])) ++ body = refl in
    reply_sum (code_digits status) (phrase_of status) (printed fields) body _ n refl (ap (λ (t : List ℕ). length t) whole) (phrase_short status) short

-- ---- texts that are escaped

three : (f : ℕ → List ℕ) → ((b : ℕ) → length (f b) ≤ 3) → (text : List ℕ) → length (flat_map f text) ≤ 3 * length text
three f each [] = omega arith
three f each (b ∷ text) = omega (arith, length-append (f b) (flat_map f text), each b, three f each text)

cond_most : (p : Bool) (x y : List ℕ) → length x ≤ 3 → length y ≤ 3 → length (cond p x y) ≤ 3
cond_most true x y here other = here
cond_most false x y here other = other

escaped_most : (b : ℕ) → length (escaped_byte b) ≤ 3
unfolding escaped_byte
escaped_most b = cond_most (is_unreserved b) _ _ (omega arith) (omega arith)

pub escaped_short : (text : List ℕ) → length (escaped text) ≤ 3 * length text
escaped_short text = three escaped_byte escaped_most text

serialized_most : (b : ℕ) → length (serialize_byte b) ≤ 3
unfolding percent_encode_byte
serialized_most b = cond_most (is_unchanged b) _ _ (omega arith) (cond_most (b == 32) _ _ (omega arith) (omega arith))

serialized_short : (text : List ℕ) → length (byte_serialize text) ≤ 3 * length text
unfolding byte_serialize
serialized_short text = three serialize_byte serialized_most text

-- the first parameter of a query
pub parameter_short : (name value : List ℕ) → length (append_pair [] name value) ≤ 3 * length name + 1 + 3 * length value
parameter_short name value =
    omega (arith, serialized_short name, serialized_short value, length-append (byte_serialize name ++ 61 ∷ []) (byte_serialize value), length-append (byte_serialize name) (61 ∷ []), length-append (byte_serialize name) ((61 ∷ []) ++ byte_serialize value))

-- the URI of a resource
pub location_short : (base : List ℕ) (kind : Kind) (id : List ℕ) → length (location_text base kind id) ≤ length base + 8 + 3 * length id
unfolding location_text
location_short base kind id =
    omega (arith, escaped_short id, path_short kind, length-append (base ++ collection_path kind) (escaped id), length-append base (collection_path kind))
  where
    path_short : (kind : Kind) → length (collection_path kind) ≤ 8
    path_short kinds.User = omega arith
    path_short kinds.Group = omega arith
