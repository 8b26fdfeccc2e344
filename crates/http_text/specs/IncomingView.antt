-- What callers see of an incoming message.
use Rattle.std.specs.Prelude.{◌≤◌, length, take, drop, map, All}
use Rattle.httparse.specs.Spans.{header_bytes, IsHeaderWithin}
use Rattle.http_text.specs.declared.incoming.Incoming.TheInside.{Inside}
use Rattle.http_text.specs.Message.{Message}
use Rattle.http_text.specs.Starts.{start_in, IsStartWithin}

-- the head is read from its bytes, and the body is what follows it
abbrev pub message_of : Inside → Message
message_of a =
    let front = take a.head_length a.bytes.items in
    record {
      head = record { start = start_in front a.start a.minor; fields = map (header_bytes front) a.fields.items };
      body = drop a.head_length a.bytes.items;
    }

-- each part is within the head, and the head is within the bytes
pub record IsLaidOut (a : Inside) : Type 0 where
  pub head : a.head_length ≤ length a.bytes.items
  pub start : IsStartWithin a.head_length a.start
  pub fields : All (IsHeaderWithin a.head_length) a.fields.items
