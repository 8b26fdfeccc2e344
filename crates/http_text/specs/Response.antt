-- The text of a response (RFC 9112, sections 4 to 6).
use Rattle.std.specs.Prelude.{ℕ, List, [], ◌∷◌, ◌++◌, map, Option, Some, None, option_map, if◌then◌else◌, ◌==◌, codes}
use Rattle.std.specs.List.{flat_map}
use Rattle.http.specs.StatusCode.{code_digits}
use Rattle.httparse.specs.Grammar.{crlf, Field, ResponseHead, print_field, print_response}
use Rattle.http_text.specs.declared.writing.FieldLine.{FieldLine}
use Rattle.http_text.specs.Message.{NamedValue}

-- the reason phrase of a status
abbrev pub phrase_of : ℕ → List ℕ
phrase_of status =
    if status == 200 then codes "OK" else (
    if status == 201 then codes "Created" else (
    if status == 304 then codes "Not Modified" else (
    if status == 400 then codes "Bad Request" else (
    if status == 404 then codes "Not Found" else (
    if status == 409 then codes "Conflict" else (
    if status == 411 then codes "Length Required" else (
    if status == 412 then codes "Precondition Failed" else (
    if status == 413 then codes "Content Too Large" else (
    if status == 415 then codes "Unsupported Media Type" else (
    if status == 417 then codes "Expectation Failed" else (
    if status == 431 then codes "Request Header Fields Too Large" else (
    if status == 500 then codes "Internal Server Error" else (
    if status == 501 then codes "Not Implemented" else [])))))))))))))

-- a field line, which is written if it has a value
abbrev pub Line : Type 0
Line = List ℕ × Option (List ℕ)

abbrev pub line_with : List ℕ → Option (List ℕ) → List NamedValue
line_with name None = []
line_with name (Some value) = (name, value) ∷ []

abbrev pub written_lines : List Line → List NamedValue
written_lines lines = flat_map (λ (line : Line). line_with line.0 line.1) lines

-- a field line that the caller gave
abbrev pub line_of : FieldLine → Line
line_of line = (line.name.now, option_map (λ t. t.now) line.value)

-- one space comes before the value
abbrev pub field_line : NamedValue → Field
field_line field = record { name = field.0; raw = 32 ∷ field.1; end = crlf }

-- a start line, field lines, an empty line and the body
abbrev pub message_text : List ℕ → List NamedValue → List ℕ → List ℕ
message_text start fields body =
    start ++ (codes "\r\n" ++ (flat_map print_field (map field_line fields) ++ (codes "\r\n" ++ body)))

-- the head of the grammar with this status and these field lines
abbrev pub response_head : ℕ → List NamedValue → ResponseHead
response_head status fields = record {
  blank = [];
  minor = 1;
  digits = code_digits status;
  reason = Some (phrase_of status);
  line_end = crlf;
  fields = map field_line fields;
  last = crlf;
}

-- the head as httparse's grammar prints it, and the body
abbrev pub response_text : ℕ → List NamedValue → List ℕ → List ℕ
response_text status fields body = print_response (response_head status fields) ++ body
