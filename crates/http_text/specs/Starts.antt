-- The first line of a head, as spans of its bytes.
use Rattle.std.specs.Prelude.{ℕ, List, ⊤}
use Rattle.httparse.specs.Spans.{span_bytes, IsWithin}
use Rattle.http_text.specs.declared.parsing.Start.{Start}
use Rattle.http_text.specs.declared.parsing.Start.TheVariants.{RequestLine, StatusLine}
use Rattle.http_text.specs.Message.{StartLine, request_line, status_line}

abbrev pub start_in : List ℕ → Start → (minor : ℕ) → StartLine
start_in bytes (RequestLine method target) minor =
    request_line (span_bytes bytes method) (span_bytes bytes target) minor
start_in bytes (StatusLine code) minor = status_line minor code

-- its spans are within the first n bytes
abbrev pub IsStartWithin : ℕ → Start → Type 0
IsStartWithin n (RequestLine method target) = IsWithin n method × IsWithin n target
IsStartWithin n (StatusLine code) = ⊤
