-- What is read of a response, and when each refusal comes: the definitions of Heads for its head, and those of Chunks
-- for a body in chunks behind it, each behind interim responses.
use Rattle.std.specs.Prelude.{◌≡◌, ℕ, ◌≤◌, ◌⊎◌, true, false, List, [], ◌++◌, length, Option, Some, Result, Ok, Err, ⊤}
use Rattle.std.specs.Io.KnownBytes.{Consumes}
use Rattle.http_text.specs.declared.fault.ReadFault.{ReadFault}
use Rattle.http_text.specs.declared.fault.ReadFault.TheVariants.{Malformed, HostMissingOrRepeated, LengthMissing, BodyTooLong, HeadTooLong, TransferCoding, Expectation, EndedEarly, ReadFailed, OutOfMemory, TurnsExhausted}
use Rattle.http_text.specs.Message.{Message, head_limit, field_limit}
use Rattle.http_text.specs.Judging.{has_chunks}
use Rattle.http_text.specs.Forms.{response_form, IsMessage, IsAcceptable, IsOneResponse, IsInterim, AfterInterims, interim_limit, IsFinalResponse, IsResponseMessage}
use Rattle.http_text.specs.Heads.{Finds, Answers, AnswersLong, IsStreamFault, IsPartOfHead, IsPartOfBody, IsRefusedHead, IsLongPart, HasLongSection, NeverHas, Exceeds}
use Rattle.http_text.specs.Heads as heads
use Rattle.http_text.specs.Chunks.{NeverEnds, IsPartWithin, RefusesBody}

-- ---- one response, interim or not

-- a head that announces chunks, and these bytes behind it
pub record HasBehind (bytes behind : List ℕ) : Type 0 where
  pub front : List ℕ
  pub stated : Message
  pub split : bytes ≡ front ++ behind
  pub is_message : IsMessage response_form front stated
  pub accepted : IsAcceptable response_form stated
  pub chunks : has_chunks stated.head ≡ true

-- the bytes that were taken are refused with this fault, while these are left
abbrev pub RefusesOne : List ℕ → Option (List ℕ) → ReadFault → Type 0
RefusesOne bytes left fault =
    heads.Refuses response_form bytes left fault
    ⊎ ((behind : List ℕ) × HasBehind bytes behind × RefusesBody behind left fault)

-- a part of a head, of a body whose length is stated, or of a body in chunks that can keep the limits
abbrev pub IsPartOfOne : List ℕ → Type 0
IsPartOfOne bytes =
    IsPartOfHead response_form bytes ⊎ (IsPartOfBody response_form bytes
    ⊎ ((behind : List ℕ) × HasBehind bytes behind × IsPartWithin behind))

-- exactly the bytes of one response were taken
abbrev pub TakesOne : Option (List ℕ) → Option (List ℕ) → Message → Type 0
TakesOne old new m = (bytes : List ℕ) × Consumes old new bytes × IsOneResponse bytes m

abbrev pub TakesRefusedOne : Option (List ℕ) → Option (List ℕ) → ReadFault → Type 0
TakesRefusedOne old new fault = (bytes : List ℕ) × Consumes old new bytes × RefusesOne bytes new fault

-- ---- behind interim responses

-- the bytes are refused, or are an interim response for which there is no room
abbrev pub RefusesResponse : Option (List ℕ) → ReadFault → ℕ → List ℕ → Type 0
RefusesResponse left fault room bytes =
    RefusesOne bytes left fault ⊎ ((room ≡ 0) × IsInterim bytes × (fault ≡ Malformed false))

-- if there is room for as many interim responses, exactly the bytes of a response were taken
abbrev pub TakesWithin : ℕ → Option (List ℕ) → Option (List ℕ) → Message → Type 0
TakesWithin room old new m =
    (bytes : List ℕ) × Consumes old new bytes × AfterInterims room (IsFinalResponse m) bytes

abbrev pub TakesRefusedWithin : ℕ → Option (List ℕ) → Option (List ℕ) → ReadFault → Type 0
TakesRefusedWithin room old new fault =
    (bytes : List ℕ) × Consumes old new bytes × AfterInterims room (RefusesResponse new fault) bytes

abbrev pub TakesResponse : Option (List ℕ) → Option (List ℕ) → Message → Type 0
TakesResponse = TakesWithin interim_limit

abbrev pub TakesRefusedResponse : Option (List ℕ) → Option (List ℕ) → ReadFault → Type 0
TakesRefusedResponse = TakesRefusedWithin interim_limit

-- bytes of this kind are at the front, behind at most as many interim responses as may come
abbrev pub HasFront : (ℕ → List ℕ → Type 0) → Option (List ℕ) → Type 0
HasFront P old = (bytes rest : List ℕ) × (old ≡ Some (bytes ++ rest)) × AfterInterims interim_limit P bytes

-- a response at the front is read
abbrev pub FindsResponse : Option (List ℕ) → Option (List ℕ) → Result Message ReadFault → Type 0
FindsResponse old new r =
    (bytes rest : List ℕ) (m : Message) → old ≡ Some (bytes ++ rest) → IsResponseMessage bytes m → Finds m rest new r

-- a refused head at the front is refused
abbrev pub FindsRefusedResponse : Option (List ℕ) → Result Message ReadFault → Type 0
FindsRefusedResponse old r =
    (fault : ReadFault) → HasFront (λ room bytes. IsRefusedHead response_form bytes fault) old → Answers fault r

-- there is only a part of a response
abbrev pub FindsResponseEnd : Option (List ℕ) → Result Message ReadFault → Type 0
FindsResponseEnd old r =
    (bytes : List ℕ) → old ≡ Some bytes → AfterInterims interim_limit (λ room part. IsPartOfOne part) bytes
    → Answers EndedEarly r

-- a head past a limit is too long
abbrev pub FindsLongResponse : Option (List ℕ) → Result Message ReadFault → Type 0
FindsLongResponse old r =
    HasFront (λ room bytes. IsLongPart response_form bytes ⊎ HasLongSection response_form bytes) old
    → AnswersLong r

-- the results that a malformed head may have: among field lines beyond the limit it may not be noticed
abbrev pub AnswersMalformedHead : List ℕ → Result Message ReadFault → Type 0
AnswersMalformedHead all (Ok found) = ⊥
AnswersMalformedHead all (Err (Malformed is_head)) = ⊤
AnswersMalformedHead all (Err (HostMissingOrRepeated is_head)) = ⊥
AnswersMalformedHead all (Err (LengthMissing is_head)) = ⊥
AnswersMalformedHead all (Err (BodyTooLong is_head)) = ⊥
AnswersMalformedHead all (Err (HeadTooLong is_head)) =
    (front last : List ℕ) × (all ≡ front ++ last) × Exceeds response_form field_limit last
AnswersMalformedHead all (Err (TransferCoding is_head)) = ⊥
AnswersMalformedHead all (Err (Expectation is_head)) = ⊥
AnswersMalformedHead all (Err EndedEarly) = ⊥
AnswersMalformedHead all (Err ReadFailed) = ⊤
AnswersMalformedHead all (Err OutOfMemory) = ⊤
AnswersMalformedHead all (Err TurnsExhausted) = ⊤

-- bytes that no further bytes complete to a head are malformed
abbrev pub FindsMalformedResponse : Option (List ℕ) → Result Message ReadFault → Type 0
FindsMalformedResponse old r =
    (bytes rest : List ℕ) → old ≡ Some (bytes ++ rest)
    → AfterInterims interim_limit (λ room last. (length last ≤ head_limit) × NeverHas response_form last) bytes
    → AnswersMalformedHead (bytes ++ rest) r

-- the results that malformed chunks may have: they may be beyond a limit first
abbrev pub AnswersMalformedBody : Result Message ReadFault → Type 0
AnswersMalformedBody (Ok found) = ⊥
AnswersMalformedBody (Err fault) = (fault ≡ Malformed false) ⊎ ((fault ≡ BodyTooLong false) ⊎ IsStreamFault fault)

-- bytes that no further bytes complete to a body in chunks are malformed
abbrev pub FindsMalformedBody : Option (List ℕ) → Result Message ReadFault → Type 0
FindsMalformedBody old r =
    HasFront (λ room bytes. (behind : List ℕ) × HasBehind bytes behind × NeverEnds behind) old → AnswersMalformedBody r

-- an interim response for which there is no room is malformed
abbrev pub FindsInterims : Option (List ℕ) → Result Message ReadFault → Type 0
FindsInterims old r = HasFront (λ room bytes. (room ≡ 0) × IsInterim bytes) old → Answers (Malformed false) r

-- no proper prefix of a response is a response, and bytes are at most one response
abbrev pub ResponsesAreApart : Type 0
ResponsesAreApart =
    (bytes more : List ℕ) (m n : Message) → IsResponseMessage bytes m → IsResponseMessage (bytes ++ more) n
    → (m ≡ n) × (more ≡ [])

-- the bytes are only a part of a response, or more than one
abbrev pub IsNoResponse : List ℕ → Type 0
IsNoResponse bytes = (m : Message) → ¬ (IsResponseMessage bytes m)
