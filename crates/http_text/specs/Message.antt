-- An HTTP/1.1 message in its parts (RFC 9112, sections 2 to 6).
use Rattle.std.specs.Prelude.{ℕ, Bool, ◌&&◌, List, [], ◌∷◌, length, map, filter, if◌then◌else◌, nat_le, nat_lt, codes}
use Rattle.std.specs.List.{list_all}
use Rattle.std.specs.Char.{is_ascii_digit, to_ascii_lowercase}
use Rattle.std.specs.Str.{bytes_eq}
use Rattle.std.specs.Str.Parse.{digits_value}
use Rattle.http_text.specs.declared.limits.TheConstants.{HEAD_LIMIT, FIELD_LIMIT, BODY_LIMIT, RESPONSE_BODY_LIMIT}

-- a field's name, and its value without the white space around it
abbrev pub NamedValue : Type 0
NamedValue = List ℕ × List ℕ

-- a first line: a request's method and target, or a response's status code, each with the digit after `HTTP/1.`
pub data StartLine : Type 0 where
  request_line : (method target : List ℕ) (minor : ℕ) → StartLine
  status_line : (minor code : ℕ) → StartLine

pub record Head : Type 0 where
  pub start : StartLine
  pub fields : List NamedValue

pub record Message : Type 0 where
  pub head : Head
  pub body : List ℕ

-- a response has no method and no target
abbrev pub method_of : StartLine → List ℕ
method_of (request_line method target minor) = method
method_of (status_line minor code) = []

abbrev pub target_of : StartLine → List ℕ
target_of (request_line method target minor) = target
target_of (status_line minor code) = []

-- a request has no status code
abbrev pub code_of : StartLine → ℕ
code_of (request_line method target minor) = 0
code_of (status_line minor code) = code

abbrev pub minor_of : StartLine → ℕ
minor_of (request_line method target minor) = minor
minor_of (status_line minor code) = minor

-- the text with ASCII letters in lower case
abbrev pub lowered : List ℕ → List ℕ
lowered text = map to_ascii_lowercase text

-- a field has this name, in any case
abbrev pub is_named : List ℕ → NamedValue → Bool
is_named name field = bytes_eq (lowered field.0) (lowered name)

-- the values of the fields with this name, in order
abbrev pub values : List ℕ → List NamedValue → List (List ℕ)
values name fields = map (λ (field : NamedValue). field.1) (filter (is_named name) fields)

-- the greatest lengths of a head, of a request's body and of a response's, and the greatest number of field lines
abbrev pub head_limit : ℕ
head_limit = HEAD_LIMIT

abbrev pub field_limit : ℕ
field_limit = FIELD_LIMIT

abbrev pub body_limit : ℕ
body_limit = BODY_LIMIT

abbrev pub response_body_limit : ℕ
response_body_limit = RESPONSE_BODY_LIMIT

-- a length is written in 1 to 18 digits
abbrev pub is_length : List ℕ → Bool
is_length text = nat_lt 0 (length text) && (nat_le (length text) 18 && list_all is_ascii_digit text)

-- what a Content-Length states
pub data Length : Type 0 where
  absent : Length
  stated : ℕ → Length
  unreadable : Length

-- a `Content-Length` that is repeated, or that isn't a length, can't be read
abbrev pub length_in : List (List ℕ) → Length
length_in [] = absent
length_in (text ∷ []) = if is_length text then stated (digits_value 10 text) else unreadable
length_in (text ∷ other ∷ texts) = unreadable

abbrev pub length_of : Head → Length
length_of head = length_in (values (codes "content-length") head.fields)

-- how many bytes follow a head: the stated length, or none
abbrev pub body_length : Length → ℕ
body_length absent = 0
body_length (stated n) = n
body_length unreadable = 0
