-- Which requests and responses are refused by their heads, and in which order.
use Rattle.std.specs.Prelude.{ℕ, Bool, true, false, ◌||◌, ◌&&◌, not, List, [], ◌∷◌, drop, Option, Some, None, Result, Ok, Err, if◌then◌else◌, ◌==◌, nat_eq, nat_le, nat_lt, codes}
use Rattle.std.specs.Char.{is_ascii_whitespace}
use Rattle.std.specs.List.{list_all, prefix_len, starts_with}
use Rattle.std.specs.Str.{bytes_eq}
use Rattle.http_text.specs.declared.fault.ReadFault.{ReadFault}
use Rattle.http_text.specs.declared.fault.ReadFault.TheVariants.{Malformed, HostMissingOrRepeated, LengthMissing, BodyTooLong, TransferCoding, Expectation}
use Rattle.http_text.specs.Message.{Head, Length, absent, stated, unreadable, method_of, minor_of, code_of, lowered, values, length_of, body_limit, response_body_limit}

-- one step after the other, up to the first refusal
infixl 10 ◌>>=◌
abbrev pub ◌>>=◌ : {A B : Type 0} → Result A ReadFault → (A → Result B ReadFault) → Result B ReadFault
(Ok x) >>= f = f x
(Err fault) >>= f = Err fault

-- a step that refuses if the test holds
abbrev pub refused_where : Bool → ReadFault → Result (Unit {0}) ReadFault
refused_where true fault = Err fault
refused_where false fault = Ok tt

abbrev pub is_head : Head → Bool
is_head head = bytes_eq (method_of head.start) (codes "HEAD")

-- a request that begins with these bytes has the method HEAD; white space before it is passed over
abbrev pub has_method_head : List ℕ → Bool
has_method_head bytes = starts_with nat_eq (drop (prefix_len is_ascii_whitespace bytes) bytes) (codes "HEAD ")

-- POST and PUT have a body
abbrev pub has_body : Head → Bool
has_body head = bytes_eq (method_of head.start) (codes "POST") || bytes_eq (method_of head.start) (codes "PUT")

-- a byte of a host and its port (RFC 9110, section 7.2; RFC 3986, section 3.2.2): a letter, a digit, or one of
-- `-._~!$&'()*+,;=%:[]`
abbrev pub is_host_byte : ℕ → Bool
is_host_byte b =
    (b == 33) || (nat_le 36 b && nat_le b 46) || (nat_le 48 b && nat_le b 59) || (b == 61)
    || (nat_le 65 b && nat_le b 91) || (b == 93) || (b == 95) || (nat_le 97 b && nat_le b 122) || (b == 126)

-- a host, with or without a port, has only such bytes; it may be empty
abbrev pub is_host : List ℕ → Bool
is_host text = list_all is_host_byte text

-- HTTP/1.1 requires one Host, no request may have two, and its value is a host
abbrev pub is_host_wrong : ℕ → List (List ℕ) → Bool
is_host_wrong minor [] = minor == 1
is_host_wrong minor (host ∷ []) = not (is_host host)
is_host_wrong minor (host ∷ other ∷ hosts) = true

abbrev pub is_any : List (List ℕ) → Bool
is_any [] = false
is_any (value ∷ values) = true

-- the length, absent or stated, or a refusal
abbrev pub readable_length : Bool → Length → Result (Option ℕ) ReadFault
readable_length is_head absent = Ok None
readable_length is_head (stated n) = Ok (Some n)
readable_length is_head unreadable = Err (Malformed is_head)

-- the body's length: a POST or PUT must state it, and it is within its limit
abbrev pub length_wanted : Bool → Bool → Option ℕ → Result ℕ ReadFault
length_wanted true is_head None = Err (LengthMissing is_head)
length_wanted false is_head None = Ok 0
length_wanted wanted is_head (Some n) = if nat_lt body_limit n then Err (BodyTooLong is_head) else Ok n

-- the length of the body that follows a request's head, or the first refusal
abbrev pub judge_head : Head → Result ℕ ReadFault
judge_head head = do
  length ← readable_length (is_head head) (length_of head)
  _ ← refused_where (is_host_wrong (minor_of head.start) (values (codes "host") head.fields))
      (HostMissingOrRepeated (is_head head))
  _ ← refused_where (is_any (values (codes "transfer-encoding") head.fields)) (TransferCoding (is_head head))
  _ ← refused_where (is_any (values (codes "expect") head.fields)) (Expectation (is_head head))
  length_wanted (has_body head) (is_head head) length

-- the codings of a body, from the first to the last
abbrev pub codings : Head → List (List ℕ)
codings head = values (codes "transfer-encoding") head.fields

-- `chunked` in any case, and no other coding
abbrev pub is_chunked_alone : List (List ℕ) → Bool
is_chunked_alone [] = false
is_chunked_alone (coding ∷ []) = bytes_eq (lowered coding) (codes "chunked")
is_chunked_alone (coding ∷ other ∷ others) = false

-- an interim response: another one follows (RFC 9110, section 15.2)
abbrev pub is_interim : Head → Bool
is_interim head = nat_lt (code_of head.start) 200

-- an interim response, a 204 and a 304 have no body, whatever they state (RFC 9112, section 6.3)
abbrev pub is_bodiless : ℕ → Bool
is_bodiless code = nat_lt code 200 || (code == 204 || code == 304)

-- there is no such status, or it switches protocols
abbrev pub is_no_status : ℕ → Bool
is_no_status code = nat_lt code 100 || code == 101

-- a body in chunks follows a response's head
abbrev pub has_chunks : Head → Bool
has_chunks head = not (is_bodiless (code_of head.start)) && is_chunked_alone (codings head)

-- the length of a response's body: it is stated, or the body has none or comes in chunks
abbrev pub response_length : (is_bodiless is_chunked : Bool) → Option ℕ → Result ℕ ReadFault
response_length bodiless true None = Ok 0
response_length bodiless true (Some n) = Err (Malformed false)
response_length true false length = Ok 0
response_length false false None = Err (Malformed false)
response_length false false (Some n) = if nat_lt response_body_limit n then Err (BodyTooLong false) else Ok n

-- the length of the body that follows a response's head, 0 before chunks, or the first refusal
abbrev pub judge_response : Head → Result ℕ ReadFault
judge_response head = do
  _ ← refused_where (is_no_status (code_of head.start)) (Malformed false)
  _ ← refused_where (is_any (codings head) && not (is_chunked_alone (codings head))) (Malformed false)
  length ← readable_length false (length_of head)
  response_length (is_bodiless (code_of head.start)) (is_chunked_alone (codings head)) length
