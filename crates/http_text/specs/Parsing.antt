-- The result of parsing a head.
use Rattle.std.specs.Prelude.{◌≡◌, ℕ, ◌<◌, List, [], length, take, drop, map}
use Rattle.httparse.specs.declared.spans.HeaderSpan.{HeaderSpan}
use Rattle.httparse.specs.declared.spans.RequestSpans.{RequestSpans}
use Rattle.httparse.specs.declared.spans.ResponseSpans.{ResponseSpans}
use Rattle.httparse.specs.Spans.{header_bytes, AreFieldsAt, IsSectionWithin}
use Rattle.http_text.specs.declared.parsing.HeadSpans.{HeadSpans}
use Rattle.http_text.specs.declared.parsing.MessageKind.{MessageKind}
use Rattle.http_text.specs.declared.parsing.MessageKind.TheVariants.{Request, Response}
use Rattle.http_text.specs.declared.parsing.Parse.{Parse}
use Rattle.http_text.specs.declared.parsing.Parse.TheVariants.{Whole, Part, Refused}
use Rattle.http_text.specs.declared.parsing.Start.TheVariants.{RequestLine, StatusLine}
use Rattle.http_text.specs.Message.{Message, head_limit}
use Rattle.http_text.specs.Starts.{start_in, IsStartWithin}
use Rattle.http_text.specs.Forms.{Form, request_form, response_form}
use Rattle.http_text.specs.Heads.{IsUndecided}
use Rattle.http_text.specs.Steps.{RefusesHead}

abbrev pub form_of : MessageKind → Form
form_of Request = request_form
form_of Response = response_form

-- the spans of a request's head and of a response's head, as spans of either form
abbrev pub spans_of_request : RequestSpans → HeadSpans
spans_of_request head =
    record { start = RequestLine head.method head.path; minor = head.version; count = head.headers; len = head.len }

abbrev pub spans_of_response : ResponseSpans → HeadSpans
spans_of_response head =
    record { start = StatusLine head.code; minor = head.version; count = head.headers; len = head.len }

-- each span is within the head, and the head is within the bytes
pub record AreWithin (bytes : List ℕ) (fields : List HeaderSpan) (spans : HeadSpans) : Type 0 where
  pub start : IsStartWithin spans.len spans.start
  pub section : IsSectionWithin bytes fields spans.len spans.count

-- the message that the spans cover, without a body
abbrev pub front_message : List ℕ → List HeaderSpan → HeadSpans → Message
front_message bytes fields spans = record {
  head = record {
    start = start_in bytes spans.start spans.minor;
    fields = map (header_bytes bytes) (take spans.count fields);
  };
  body = [];
}

module _ (F : Form) (bytes : List ℕ) (fields : List HeaderSpan) where
  -- the head at the front of the bytes, whose parts the spans cover
  pub record IsHeadAt (spans : HeadSpans) (tree : F.Tree) : Type 0 where
    pub reads : F.Reads bytes tree (drop spans.len bytes)
    pub len : spans.len ≡ length (F.print tree)
    pub start : start_in bytes spans.start spans.minor ≡ F.start tree
    pub lines : AreFieldsAt bytes fields spans.count (F.lines tree)

  abbrev pub IsHeadOf : HeadSpans → Type 0
  IsHeadOf spans = (tree : F.Tree) × IsHeadAt spans tree

  -- a whole head at the front and its parts; a part of a head within the limit; or a refusal
  abbrev pub Parses : Parse → Type 0
  Parses (Whole spans) = IsHeadOf spans × AreWithin bytes fields spans
  Parses Part = IsUndecided F bytes × (length bytes < head_limit)
  Parses (Refused fault) = RefusesHead F bytes fault
