-- The steps of reading a body in chunks: first its chunks, then its trailers.
use Rattle.std.specs.Prelude.{◌≡◌, ℕ, ◌+◌, ◌≤◌, true, false, List, [], ◌∷◌, ◌++◌, length, Option}
use Rattle.std.specs.Io.KnownBytes.{Consumes, IsAtEnd}
use Rattle.http1.specs.declared.chunked.ChunkedDecoder.{ChunkedDecoder}
use Rattle.http1.specs.ChunkedDecoder.{start, run, run_result, IsDone}
use Rattle.http_text.specs.declared.fault.ReadFault.{ReadFault}
use Rattle.http_text.specs.declared.fault.ReadFault.TheVariants.{Malformed, HostMissingOrRepeated, LengthMissing, BodyTooLong, HeadTooLong, TransferCoding, Expectation, EndedEarly, ReadFailed, OutOfMemory, TurnsExhausted}
use Rattle.http_text.specs.Chunks.{ReadsTrailers, framing_limit}
use Rattle.http_text.specs.Message.{Message, response_body_limit}

-- the chunks up to the line of the last one, this content, and how many bytes of framing may follow
pub record AreChunksRead (bytes content : List ℕ) (room : ℕ) : Type 0 where
  pub decoder : ChunkedDecoder
  pub reads : run (start framing_limit) bytes ≡ run_result decoder content []
  pub done : IsDone decoder
  pub size : length content ≤ response_body_limit
  pub framing : room + length bytes ≡ framing_limit + length content

-- all chunks were taken, and their content was appended to the body
abbrev pub TakesChunks : Option (List ℕ) → Option (List ℕ) → Message → Message → ℕ → Type 0
TakesChunks old new before after room =
    (bytes : List ℕ) × Consumes old new bytes × (content : List ℕ) × AreChunksRead bytes content room
    × (after ≡ record { head = before.head; body = before.body ++ content })

-- no prefix of the bytes is trailers
abbrev pub HasNoTrailers : List ℕ → Type 0
HasNoTrailers bytes = (rest : List ℕ) → ¬ (ReadsTrailers bytes rest)

-- the same, and more bytes complete trailers
pub record IsPartOfTrailers (bytes : List ℕ) : Type 0 where
  pub none : HasNoTrailers bytes
  pub more : List ℕ
  pub whole : ReadsTrailers (bytes ++ more) []

abbrev pub IsTrailerPartBefore : List ℕ → Type 0
IsTrailerPartBefore bytes = (front : List ℕ) × (last : ℕ) × (bytes ≡ front ++ last ∷ []) × IsPartOfTrailers front

-- the bytes that were taken of trailers are refused with this fault, if they may have as many bytes as there is room for
abbrev pub RefusesTrailers : ℕ → List ℕ → Option (List ℕ) → ReadFault → Type 0
RefusesTrailers room bytes left (Malformed true) = ⊥
RefusesTrailers room bytes left (Malformed false) =
    ((more : List ℕ) → HasNoTrailers (bytes ++ more)) × IsTrailerPartBefore bytes
RefusesTrailers room bytes left (HostMissingOrRepeated is_head) = ⊥
RefusesTrailers room bytes left (LengthMissing is_head) = ⊥
RefusesTrailers room bytes left (BodyTooLong true) = ⊥
RefusesTrailers room bytes left (BodyTooLong false) = (length bytes ≡ room + 1) × IsTrailerPartBefore bytes
RefusesTrailers room bytes left (HeadTooLong is_head) = ⊥
RefusesTrailers room bytes left (TransferCoding is_head) = ⊥
RefusesTrailers room bytes left (Expectation is_head) = ⊥
RefusesTrailers room bytes left EndedEarly = IsPartOfTrailers bytes × IsAtEnd left
RefusesTrailers room bytes left ReadFailed = IsPartOfTrailers bytes
RefusesTrailers room bytes left OutOfMemory = ⊥
RefusesTrailers room bytes left TurnsExhausted = IsPartOfTrailers bytes

-- exactly the bytes of trailers were taken
abbrev pub TakesTrailers : ℕ → Option (List ℕ) → Option (List ℕ) → Type 0
TakesTrailers room old new =
    (bytes : List ℕ) × Consumes old new bytes × ReadsTrailers bytes [] × (length bytes ≤ room)

abbrev pub CutsTrailers : ℕ → Option (List ℕ) → Option (List ℕ) → ReadFault → Type 0
CutsTrailers room old new fault = (bytes : List ℕ) × Consumes old new bytes × RefusesTrailers room bytes new fault
