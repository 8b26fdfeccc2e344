-- The parts of a head in the head's own bytes, and as a parse finds them.
use Rattle.std.proofs.Common.{◌≡◌, ℕ, List, [], ◌∷◌, take, drop, map, All, refl, ap, sym, ◌∙◌, arith, length-take}
use Rattle.std.proofs.lemmas.List.{take-take, drop_all}
use Rattle.std.proofs.lemmas.List.Elements.{All-head, All-tail}
use Rattle.std.proofs.lemmas.Slice.{between_is}
use Rattle.httparse.specs.declared.spans.Span.{Span}
use Rattle.httparse.specs.declared.spans.HeaderSpan.{HeaderSpan}
use Rattle.httparse.specs.declared.spans.RequestSpans.{RequestSpans}
use Rattle.httparse.specs.declared.spans.ResponseSpans.{ResponseSpans}
use Rattle.httparse.specs.Spans.{span_bytes, header_bytes, IsWithin, IsHeaderWithin, IsRequestWithin, IsRequestOf, IsResponseWithin, IsResponseOf}
use Rattle.http_text.specs.declared.parsing.HeadSpans.{HeadSpans}
use Rattle.http_text.specs.declared.parsing.Parse.TheVariants.{Whole}
use Rattle.http_text.specs.declared.parsing.Start.{Start}
use Rattle.http_text.specs.declared.parsing.Start.TheVariants.{RequestLine, StatusLine}
use Rattle.http_text.specs.Message.{Message, request_line, status_line}
use Rattle.http_text.specs.Starts.{start_in, IsStartWithin}
use Rattle.http_text.specs.Forms.{request_form, response_form}
use Rattle.http_text.specs.Parsing.{spans_of_request, spans_of_response, AreWithin, front_message, Parses}

module _ (bytes : List ℕ) (n : ℕ) where
  -- a span within the first n bytes needs no others
  pub span_kept : (s : Span) → IsWithin n s → span_bytes (take n bytes) s ≡ span_bytes bytes s
  span_kept s within =
      between_is (take n bytes) s.start s.end ∙ ap (drop s.start) (take-take s.end n bytes within.1) ∙ sym (between_is bytes s.start s.end)

  pub headers_kept : (hs : List HeaderSpan) → All (IsHeaderWithin n) hs → map (header_bytes (take n bytes)) hs ≡ map (header_bytes bytes) hs
  headers_kept [] all = refl
  headers_kept (h ∷ hs) all =
      let here = All-head (IsHeaderWithin n) h hs all in
      let name = span_kept h.name here.0 in
      let value = span_kept h.value here.1 in
      let rest = headers_kept hs (All-tail (IsHeaderWithin n) h hs all) in
      λ i. (name i, value i) ∷ rest i

  -- only the bytes of a head
  pub front_kept : (items : List ℕ) → items ≡ take n bytes → take n items ≡ take n bytes
  front_kept items is = ap (take n) is ∙ take-take n n bytes (omega arith)

  pub body_none : (items : List ℕ) → items ≡ take n bytes → drop n items ≡ []
  body_none items is = ap (drop n) is ∙ drop_all n (take n bytes) (omega (arith, length-take n bytes))

  start_kept : (start : Start) (minor : ℕ) → IsStartWithin n start → start_in (take n bytes) start minor ≡ start_in bytes start minor
  start_kept (RequestLine method target) minor within =
      let m = span_kept method within.0 in
      let t = span_kept target within.1 in
      λ i. request_line (m i) (t i) minor
  start_kept (StatusLine code) minor within = refl

-- the head at the front of some bytes, read off its own bytes
pub message_kept : (bytes : List ℕ) (fields : List HeaderSpan) (spans : HeadSpans) → AreWithin bytes fields spans
    → (items : List ℕ) (own : List HeaderSpan) → items ≡ take spans.len bytes → own ≡ take spans.count fields
    → (let front = take spans.len items in
    let m : Message = record {
      head = record { start = start_in front spans.start spans.minor; fields = map (header_bytes front) own };
      body = drop spans.len items;
    } in m)
    ≡ front_message bytes fields spans
message_kept bytes fields spans within items own is own_is =
    let front = front_kept bytes spans.len items is in
    let start = ap (λ (t : List ℕ). start_in t spans.start spans.minor) front ∙ start_kept bytes spans.len spans.start spans.minor within.start in
    let section = within.section in
    let lines =
    ap (λ (t : List ℕ). map (header_bytes t) own) front ∙ ap (map (header_bytes (take spans.len bytes))) own_is
    ∙ headers_kept bytes spans.len (take spans.count fields) section.headers_fit in
    let body = body_none bytes spans.len items is in
    λ i. record { head = record { start = start i; fields = lines i }; body = body i }

-- ---- the parts of a parsed head, of either form

pub request_found : (bytes : List ℕ) (fields : List HeaderSpan) (spans : RequestSpans) → IsRequestOf bytes fields spans → IsRequestWithin bytes fields spans
    → Parses request_form bytes fields (Whole (spans_of_request spans))
request_found bytes fields spans found within =
    let at = found.1 in
    let method = at.method in
    let path = at.path in
    let version = at.version in (
      (found.0, record { reads = at.reads; len = at.len; start = λ i. request_line (method i) (path i) (version i); lines = at.fields }),
      record { start = (within.method, within.path); section = within.section },
    )

pub response_found : (bytes : List ℕ) (fields : List HeaderSpan) (spans : ResponseSpans) → IsResponseOf bytes fields spans → IsResponseWithin bytes fields spans
    → Parses response_form bytes fields (Whole (spans_of_response spans))
response_found bytes fields spans found within =
    let at = found.1 in
    let version = at.version in
    let code = at.code in (
      (found.0, record { reads = at.reads; len = at.len; start = λ i. status_line (version i) (code i); lines = at.fields }),
      record { start = tt; section = within.section },
    )
