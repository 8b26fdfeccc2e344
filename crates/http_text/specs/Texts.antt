-- The texts of requests and responses, and that each is a message with its parts.
use Rattle.std.specs.Prelude.{◌≡◌, ℕ, ◌<◌, ◌≤◌, List, [], ◌++◌, length, map, reverse, All, ◌+◌}
use Rattle.std.specs.Str.{IsUtf8}
use Rattle.http.specs.StatusCode.{IsStatusCode}
use Rattle.httparse.specs.Grammar.{AllPass, IsToken, is_uri_byte, is_value_byte, skip_ows, crlf, RequestHead, print_request}
use Rattle.http_text.specs.Message.{NamedValue, Message, request_line, status_line, head_limit, field_limit}
use Rattle.http_text.specs.Forms.{Form, request_form, response_form, IsMessage}
use Rattle.http_text.specs.Response.{field_line, response_text}

-- the head of the grammar with this method, this target and these field lines
abbrev pub request_head : (method target : List ℕ) → List NamedValue → RequestHead
request_head method target fields = record {
  blank = [];
  method = method;
  target = target;
  minor = 1;
  line_end = crlf;
  fields = map field_line fields;
  last = crlf;
}

-- the head as httparse's grammar prints it, and the body
abbrev pub request_text : (method target : List ℕ) → List NamedValue → List ℕ → List ℕ
request_text method target fields body = print_request (request_head method target fields) ++ body

-- a field line that a head may have: its name is a token; its value has no control byte except the tab, and no white
-- space at its ends
pub record IsFieldLine (field : NamedValue) : Type 0 where
  pub name : IsToken field.0
  pub value : AllPass is_value_byte field.1
  pub front : skip_ows field.1 ≡ field.1
  pub back : skip_ows (reverse field.1) ≡ reverse field.1

-- a target: visible bytes, which are UTF-8
pub record IsTarget (target : List ℕ) : Type 0 where
  pub some : 0 < length target
  pub visible : AllPass is_uri_byte target
  pub text : IsUtf8 target

-- the text is a message with these parts, if it is within the limits and its head states the body's length
abbrev pub IsRead : Form → List ℕ → Message → Type 0
IsRead form text m =
    length text ≤ head_limit + length m.body → length m.head.fields ≤ field_limit → length m.body ≡ form.body m.head
    → IsMessage form text m

-- The text that is written for a request or a response is a message with exactly those parts, if a head may have its
-- field lines
pub record TextsAreRead : Type 0 where
  pub request : (method target : List ℕ) (fields : List NamedValue) (body : List ℕ) → IsToken method
      → IsTarget target → All IsFieldLine fields
      → IsRead request_form (request_text method target fields body)
      (record { head = record { start = request_line method target 1; fields = fields }; body = body })
  pub response : (status : ℕ) (fields : List NamedValue) (body : List ℕ) → IsStatusCode status → All IsFieldLine fields
      → IsRead response_form (response_text status fields body)
      (record { head = record { start = status_line 1 status; fields = fields }; body = body })
