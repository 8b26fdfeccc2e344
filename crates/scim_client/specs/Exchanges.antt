-- One exchange: what is sent, what is read, and the result.
use Rattle.std.specs.Prelude.{◌≡◌, ℕ, ◌≤◌, ◌⊎◌, List, ◌++◌, length, Option, Some, Result, Ok, Err, IfOk, IfErr, OnOk, ⊤}
use Rattle.std.specs.Io.KnownBytes.{Appends}
use Rattle.scim_message.specs.declared.answers.BodyFault.{BodyFault}
use Rattle.scim_message.specs.declared.answers.BodyFault.TheVariants as bodies
use Rattle.scim_message.specs.declared.messages.Answer.{Answer}
use Rattle.scim_message.specs.declared.messages.Request.{Request}
use Rattle.http_text.specs.declared.fault.ReadFault.{ReadFault}
use Rattle.http_text.specs.declared.fault.ReadFault.TheVariants as faults
use Rattle.http_text.specs.Chunks.{NeverEnds}
use Rattle.http_text.specs.Counts.{Reading, Writing, count_up, CountsTurns}
use Rattle.http_text.specs.Message.{Message, head_limit}
use Rattle.http_text.specs.Forms.{response_form, IsInterim, AfterInterims, interim_limit}
use Rattle.http_text.specs.Heads.{EndsReading, IsRefusedHead, NeverHas, IsLongPart, HasLongSection}
use Rattle.http_text.specs.Responses.{TakesResponse, TakesRefusedResponse, FindsResponse, FindsRefusedResponse, FindsResponseEnd, FindsLongResponse, FindsMalformedResponse, FindsMalformedBody, FindsInterims, HasFront, HasBehind, IsPartOfOne, IsNoResponse}
use Rattle.http_text.specs.Sending.{IsLost, EndsSending}
use Rattle.scim_client.specs.declared.answers.AnswerFault.TheVariants.{NotOneResponse, NotJson, WrongShape}
use Rattle.scim_client.specs.declared.answers.AnswerFault.TheVariants as answers
use Rattle.scim_client.specs.declared.exchange.ExchangeFault.{ExchangeFault}
use Rattle.scim_client.specs.declared.exchange.ExchangeFault.TheVariants.{Unsent, EndedEarly, ReadFailed, OutOfMemory, TurnsExhausted, NoAnswer}
use Rattle.scim_client.specs.Requests.{text_of}
use Rattle.scim_client.specs.Spelling.{IsWritable, KeepsLimits, SpellsRequest}
use Rattle.scim_client.specs.Answers.{answer_in, AnswersSo, RefusesBody, SaysSo}

-- ---- what is sent

-- the text was written whole and flushed
pub record IsSent (old new : Writing) (text : List ℕ) : Type 0 where
  pub appends : Appends old.contents new.contents text
  pub flushed : new.flushes ≡ count_up old.flushes 1
  pub clean : new.failures ≡ old.failures

-- What was written of a request's text, by the result of the exchange: all of it; or as much as the fault reports, in
-- agreement with the writer's counts; or nothing, if memory ran out first
abbrev pub Sends : List ℕ → Writing → Writing → Result Answer ExchangeFault → Type 0
Sends text old new (Ok a) = IsSent old new text
Sends text old new (Err (Unsent fault)) = IsLost old new text fault × EndsSending old new fault
Sends text old new (Err EndedEarly) = IsSent old new text
Sends text old new (Err ReadFailed) = IsSent old new text
Sends text old new (Err OutOfMemory) = IsSent old new text
Sends text old new (Err TurnsExhausted) = IsSent old new text
Sends text old new (Err (NoAnswer NotOneResponse)) = IsSent old new text
Sends text old new (Err (NoAnswer NotJson)) = IsSent old new text
Sends text old new (Err (NoAnswer WrongShape)) = IsSent old new text
Sends text old new (Err (NoAnswer answers.OutOfMemory)) = IsSent old new text ⊎ (new ≡ old)

-- nothing was written, or the request's text spells it, if it is within the limits
abbrev pub SpellsSent : (base : List ℕ) → Request → (old new : Writing) → Type 0
SpellsSent base request old new =
    (new ≡ old) ⊎ (IsWritable request → KeepsLimits base request → SpellsRequest (text_of base request) request)

-- ---- what is read

-- the fault of an exchange for a fault of reading a response
abbrev pub fault_of : ReadFault → ExchangeFault
fault_of (faults.Malformed is_head) = NoAnswer NotOneResponse
fault_of (faults.HostMissingOrRepeated is_head) = NoAnswer NotOneResponse
fault_of (faults.LengthMissing is_head) = NoAnswer NotOneResponse
fault_of (faults.BodyTooLong is_head) = NoAnswer NotOneResponse
fault_of (faults.HeadTooLong is_head) = NoAnswer NotOneResponse
fault_of (faults.TransferCoding is_head) = NoAnswer NotOneResponse
fault_of (faults.Expectation is_head) = NoAnswer NotOneResponse
fault_of faults.EndedEarly = EndedEarly
fault_of faults.ReadFailed = ReadFailed
fault_of faults.OutOfMemory = OutOfMemory
fault_of faults.TurnsExhausted = TurnsExhausted

-- exactly the bytes of one response were taken, and it answers this to the request
pub record TakesAnswer (request : Request) (old new : Reading) (said : Result Answer BodyFault) : Type 0 where
  pub message : Message
  pub takes : TakesResponse old.remaining new.remaining message
  pub says : answer_in request message ≡ said
  pub clean : new.failures ≡ old.failures

-- the bytes that were taken are refused with this fault, in agreement with the reader's counts
pub record StopsReading (old new : Reading) (fault : ReadFault) : Type 0 where
  pub takes : TakesRefusedResponse old.remaining new.remaining fault
  pub counts : EndsReading old new fault

-- What was taken from the reader, by the result of the exchange: one response, which is the answer or is refused for
-- its body; or what reading refused; or nothing, if the request wasn't sent
abbrev pub Reads : Request → Reading → Reading → Result Answer ExchangeFault → Type 0
Reads request old new (Ok a) = TakesAnswer request old new (Ok a)
Reads request old new (Err (Unsent fault)) = new ≡ old
Reads request old new (Err EndedEarly) = StopsReading old new faults.EndedEarly
Reads request old new (Err ReadFailed) = StopsReading old new faults.ReadFailed
Reads request old new (Err OutOfMemory) = StopsReading old new faults.OutOfMemory
Reads request old new (Err TurnsExhausted) = StopsReading old new faults.TurnsExhausted
Reads request old new (Err (NoAnswer NotOneResponse)) = (fault : ReadFault)
    × (fault_of fault ≡ NoAnswer NotOneResponse) × StopsReading old new fault
Reads request old new (Err (NoAnswer NotJson)) = TakesAnswer request old new (Err bodies.NotJson)
Reads request old new (Err (NoAnswer WrongShape)) = TakesAnswer request old new (Err bodies.WrongShape)
Reads request old new (Err (NoAnswer answers.OutOfMemory)) =
    ((said : Result Answer BodyFault) × TakesAnswer request old new said) ⊎ (new ≡ old)

-- ---- from what is at the reader's front

-- the request wasn't sent, the reader failed or gave no whole response within its turns, or memory ran out
abbrev pub IsHindered : Result Answer ExchangeFault → Type 0
IsHindered (Ok a) = ⊥
IsHindered (Err (Unsent fault)) = ⊤
IsHindered (Err EndedEarly) = ⊥
IsHindered (Err ReadFailed) = ⊤
IsHindered (Err OutOfMemory) = ⊤
IsHindered (Err TurnsExhausted) = ⊤
IsHindered (Err (NoAnswer NotOneResponse)) = ⊥
IsHindered (Err (NoAnswer NotJson)) = ⊥
IsHindered (Err (NoAnswer WrongShape)) = ⊥
IsHindered (Err (NoAnswer answers.OutOfMemory)) = ⊤

-- no response came, though the reader didn't fail
abbrev pub IsWithout : Result Answer ExchangeFault → Type 0
IsWithout result = (result ≡ Err (NoAnswer NotOneResponse)) ⊎ (result ≡ Err EndedEarly)

-- The result of an exchange if the reader's bytes are known
pub record ExchangesKnown (request : Request) (remaining left : Option (List ℕ))
    (result : Result Answer ExchangeFault) : Type 0 where
  -- the answer at the front is the result, and what follows it is left
  pub answer : (bytes rest : List ℕ) (a : Answer) → remaining ≡ Some (bytes ++ rest) → AnswersSo bytes request a
      → ((result ≡ Ok a) × (left ≡ Some rest)) ⊎ IsHindered result
  -- a response at the front whose body is refused
  pub not_json : (bytes rest : List ℕ) → remaining ≡ Some (bytes ++ rest) → RefusesBody bytes request bodies.NotJson
      → ((result ≡ Err (NoAnswer NotJson)) × (left ≡ Some rest)) ⊎ IsHindered result
  pub wrong_shape : (bytes rest : List ℕ) → remaining ≡ Some (bytes ++ rest)
      → RefusesBody bytes request bodies.WrongShape
      → ((result ≡ Err (NoAnswer WrongShape)) × (left ≡ Some rest)) ⊎ IsHindered result
  -- no response comes only if there is none at the front
  pub without : (bytes rest : List ℕ) → remaining ≡ Some (bytes ++ rest) → IsWithout result → IsNoResponse bytes
  -- only a part of a response
  pub part : (bytes : List ℕ) → remaining ≡ Some bytes
      → AfterInterims interim_limit (λ room part. IsPartOfOne part) bytes
      → (result ≡ Err EndedEarly) ⊎ IsHindered result
  -- a refused head, a head beyond a limit, and bytes that no bytes complete to a head
  pub refused_head : (fault : ReadFault)
      → HasFront (λ room bytes. IsRefusedHead response_form bytes fault) remaining
      → (result ≡ Err (NoAnswer NotOneResponse)) ⊎ IsHindered result
  pub long : HasFront (λ room bytes. IsLongPart response_form bytes ⊎ HasLongSection response_form bytes) remaining
      → (result ≡ Err (NoAnswer NotOneResponse)) ⊎ IsHindered result
  pub malformed : HasFront (λ room bytes. (length bytes ≤ head_limit) × NeverHas response_form bytes) remaining
      → (result ≡ Err (NoAnswer NotOneResponse)) ⊎ IsHindered result
  -- bytes that no bytes complete to a body in chunks, and an interim response for which there is no room
  pub malformed_body : HasFront (λ room bytes. (behind : List ℕ) × HasBehind bytes behind × NeverEnds behind) remaining
      → (result ≡ Err (NoAnswer NotOneResponse)) ⊎ IsHindered result
  pub interims : HasFront (λ room bytes. (room ≡ 0) × IsInterim bytes) remaining
      → (result ≡ Err (NoAnswer NotOneResponse)) ⊎ IsHindered result

-- ---- the two halves of an exchange

-- A request is sent: its text was written whole; or as much as the fault reports, in agreement with the writer's
-- counts; or nothing, if memory ran out first
abbrev pub Starts : List ℕ → Writing → Writing → Result (Unit {0}) ExchangeFault → Type 0
Starts text old new (Ok sent) = IsSent old new text
Starts text old new (Err (Unsent fault)) = IsLost old new text fault × EndsSending old new fault
Starts text old new (Err EndedEarly) = ⊥
Starts text old new (Err ReadFailed) = ⊥
Starts text old new (Err OutOfMemory) = ⊥
Starts text old new (Err TurnsExhausted) = ⊥
Starts text old new (Err (NoAnswer NotOneResponse)) = ⊥
Starts text old new (Err (NoAnswer NotJson)) = ⊥
Starts text old new (Err (NoAnswer WrongShape)) = ⊥
Starts text old new (Err (NoAnswer answers.OutOfMemory)) = new ≡ old

-- its answer is read: the result of a request that was sent whole
abbrev pub IsReply : Result Answer ExchangeFault → Type 0
IsReply (Ok a) = ⊤
IsReply (Err (Unsent fault)) = ⊥
IsReply (Err EndedEarly) = ⊤
IsReply (Err ReadFailed) = ⊤
IsReply (Err OutOfMemory) = ⊤
IsReply (Err TurnsExhausted) = ⊤
IsReply (Err (NoAnswer fault)) = ⊤

-- ---- the steps of an exchange

-- what was read, as the reader of responses reports it
pub record HasRead (old new : Reading) (r : Result Message ReadFault) : Type 0 where
  pub message : IfOk r (TakesResponse old.remaining new.remaining)
  pub refused : IfErr r (TakesRefusedResponse old.remaining new.remaining)
  pub found : FindsResponse old.remaining new.remaining r
  pub refused_head : FindsRefusedResponse old.remaining r
  pub ended : FindsResponseEnd old.remaining r
  pub long : FindsLongResponse old.remaining r
  pub malformed : FindsMalformedResponse old.remaining r
  pub malformed_body : FindsMalformedBody old.remaining r
  pub interims : FindsInterims old.remaining r
  pub counts : CountsTurns old.calls new.calls
  pub clean : OnOk r (new.failures ≡ old.failures)
  pub fault : IfErr r (EndsReading old new)

-- the result that follows from what was read
abbrev pub ComesOf : Request → Result Message ReadFault → Result Answer ExchangeFault → Type 0
ComesOf request (Ok m) (Ok a) = answer_in request m ≡ Ok a
ComesOf request (Ok m) (Err (Unsent fault)) = ⊥
ComesOf request (Ok m) (Err EndedEarly) = ⊥
ComesOf request (Ok m) (Err ReadFailed) = ⊥
ComesOf request (Ok m) (Err OutOfMemory) = ⊥
ComesOf request (Ok m) (Err TurnsExhausted) = ⊥
ComesOf request (Ok m) (Err (NoAnswer fault)) = SaysSo request m (Err fault)
ComesOf request (Err fault) result = result ≡ Err (fault_of fault)
