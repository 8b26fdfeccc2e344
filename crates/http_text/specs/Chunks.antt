-- A body in chunks (RFC 9112, section 7.1), and what a part of one can become. The chunks are those of http1's grammar;
-- the trailers are read over.
use Rattle.std.specs.Prelude.{◌≡◌, ℕ, ◌+◌, ◌-◌, ◌<◌, ◌≤◌, ◌⊎◌, true, false, List, [], ◌∷◌, ◌++◌, length, flat_map, Option, IsTrue, ⊤}
use Rattle.std.specs.List.{list_all, AllByRecursion}
use Rattle.std.specs.Io.KnownBytes.{Consumes, IsAtEnd}
use Rattle.httparse.specs.Ascii.{crlf_bytes}
use Rattle.httparse.specs.Grammar.{is_token_byte, is_value_byte}
use Rattle.http1.specs.ChunkedBody.{Chunks, ReadsChunks}
use Rattle.http1.specs.ChunkedBody as chunked
use Rattle.http1.specs.ChunkedDecoder.{start, run}
use Rattle.http_text.specs.declared.fault.ReadFault.{ReadFault}
use Rattle.http_text.specs.declared.fault.ReadFault.TheVariants.{Malformed, HostMissingOrRepeated, LengthMissing, BodyTooLong, HeadTooLong, TransferCoding, Expectation, EndedEarly, ReadFailed, OutOfMemory, TurnsExhausted}
use Rattle.http_text.specs.declared.limits.TheConstants.{CHUNK_FRAMING_LIMIT}
use Rattle.http_text.specs.Message.{Message, response_body_limit}

-- the greatest number of bytes of a body in chunks that aren't its content
abbrev pub framing_limit : ℕ
framing_limit = CHUNK_FRAMING_LIMIT

-- ---- the trailers

-- a field line of the trailers: a name, a colon, and the bytes up to the end of the line
pub record TrailerLine : Type 0 where
  pub name : List ℕ
  pub value : List ℕ

pub record IsTrailerLine (line : TrailerLine) : Type 0 where
  pub some : 0 < length line.name
  pub name : IsTrue (list_all is_token_byte line.name)
  pub value : IsTrue (list_all is_value_byte line.value)

abbrev pub print_trailer : TrailerLine → List ℕ
print_trailer line = line.name ++ 58 ∷ (line.value ++ crlf_bytes)

-- the field lines, and an empty line
abbrev pub print_trailers : List TrailerLine → List ℕ
print_trailers lines = flat_map print_trailer lines ++ crlf_bytes

-- the input begins with trailers, and the rest follows them
abbrev pub ReadsTrailers : List ℕ → List ℕ → Type 0
ReadsTrailers input rest =
    (lines : List TrailerLine) × AllByRecursion IsTrailerLine lines × (input ≡ print_trailers lines ++ rest)

-- ---- the body

-- the input begins with a body in chunks that has this content, and the rest follows it
pub record ReadsChunked (input content rest : List ℕ) : Type 0 where
  pub chunks : Chunks
  pub after : List ℕ
  pub reads : ReadsChunks framing_limit input chunks after
  pub decoded : content ≡ chunked.content chunks
  pub trailers : ReadsTrailers after rest

-- the same within both limits: that of the content, and that of the other bytes
pub record ReadsWithin (input content rest : List ℕ) : Type 0 where
  pub reads : ReadsChunked input content rest
  pub size : length content ≤ response_body_limit
  pub framing : length input ≤ length content + length rest + framing_limit

-- the bytes are a body in chunks within the limits, and this is its content
abbrev pub IsChunkedBody : List ℕ → List ℕ → Type 0
IsChunkedBody bytes content = ReadsWithin bytes content []

-- ---- what a part of one can become

-- no prefix of the bytes is a body in chunks
abbrev pub HasNoBody : List ℕ → Type 0
HasNoBody bytes = (content rest : List ℕ) → ¬ (ReadsChunked bytes content rest)

-- no bytes can follow that make a prefix one
abbrev pub NeverEnds : List ℕ → Type 0
NeverEnds bytes = (more : List ℕ) → HasNoBody (bytes ++ more)

-- whatever bytes follow, a body in chunks at the front is beyond a limit
abbrev pub NeverFits : List ℕ → Type 0
NeverFits bytes = (more content rest : List ℕ) → ¬ (ReadsWithin (bytes ++ more) content rest)

-- the bytes contain no whole body in chunks, and more bytes complete one
pub record IsPartOfChunks (bytes : List ℕ) : Type 0 where
  pub none : HasNoBody bytes
  pub more : List ℕ
  pub content : List ℕ
  pub whole : ReadsChunked (bytes ++ more) content []

-- the same, and the limits can be kept
pub record IsPartWithin (bytes : List ℕ) : Type 0 where
  pub none : HasNoBody bytes
  pub more : List ℕ
  pub content : List ℕ
  pub whole : IsChunkedBody (bytes ++ more) content

-- nothing was decided before the last byte
abbrev pub IsPartBefore : List ℕ → Type 0
IsPartBefore bytes = (front : List ℕ) (last : ℕ) → bytes ≡ front ++ last ∷ [] → IsPartOfChunks front

-- no further bytes can complete a body in chunks, and the last byte decides that
pub record IsMalformedBody (bytes : List ℕ) : Type 0 where
  pub never : NeverEnds bytes
  pub before : IsPartBefore bytes

-- the content in a part of a body in chunks, as http1's decoder reads it, and how many bytes aren't content
abbrev pub content_in : List ℕ → List ℕ
content_in bytes = (run (start framing_limit) bytes).body

abbrev pub framing_in : List ℕ → ℕ
framing_in bytes = length bytes - length (content_in bytes)

-- the last byte is the first beyond a limit
pub record IsLongBody (bytes : List ℕ) : Type 0 where
  pub never : NeverFits bytes
  pub before : IsPartBefore bytes
  pub exceeds : (length (content_in bytes) ≡ response_body_limit + 1) ⊎ (framing_in bytes ≡ framing_limit + 1)

-- the bytes that were taken of a body in chunks are refused with this fault, while these are left
abbrev pub RefusesBody : List ℕ → Option (List ℕ) → ReadFault → Type 0
RefusesBody bytes left (Malformed true) = ⊥
RefusesBody bytes left (Malformed false) = IsMalformedBody bytes
RefusesBody bytes left (HostMissingOrRepeated is_head) = ⊥
RefusesBody bytes left (LengthMissing is_head) = ⊥
RefusesBody bytes left (BodyTooLong true) = ⊥
RefusesBody bytes left (BodyTooLong false) = IsLongBody bytes
RefusesBody bytes left (HeadTooLong is_head) = ⊥
RefusesBody bytes left (TransferCoding is_head) = ⊥
RefusesBody bytes left (Expectation is_head) = ⊥
RefusesBody bytes left EndedEarly = IsPartOfChunks bytes × IsAtEnd left
RefusesBody bytes left ReadFailed = IsPartOfChunks bytes
RefusesBody bytes left OutOfMemory = ⊤
RefusesBody bytes left TurnsExhausted = IsPartOfChunks bytes

-- exactly the bytes of a body in chunks were taken, and its content was appended to the body
abbrev pub TakesChunked : Option (List ℕ) → Option (List ℕ) → Message → Message → Type 0
TakesChunked old new before after =
    (bytes : List ℕ) × Consumes old new bytes × (content : List ℕ) × IsChunkedBody bytes content
    × (after ≡ record { head = before.head; body = before.body ++ content })

-- what was taken of a body in chunks is refused with this fault
abbrev pub CutsChunked : Option (List ℕ) → Option (List ℕ) → ReadFault → Type 0
CutsChunked old new fault = (bytes : List ℕ) × Consumes old new bytes × RefusesBody bytes new fault
