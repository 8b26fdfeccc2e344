-- From what was read, and what followed from it, to what was at the reader's front.
use Rattle.std.proofs.Common.{◌≡◌, ℕ, ◌⊎◌, ⊎_elim, inl, inr, Bool, List, ◌++◌, Option, Some, Result, Ok, Err, refl, subst, take}
use Rattle.httparse.specs.Grammar.{EndsInTarget}
use Rattle.httparse.specs.Spans.{RequestExceeds}
use Rattle.scim_resource.specs.Rows.{StoredRecord}
use Rattle.scim_message.specs.declared.messages.Request.{Request}
use Rattle.scim_message.specs.declared.refusals.Refusal.{Refusal}
use Rattle.provider_core.specs.declared.registry.Registry.{Ghosts}
use Rattle.http_text.specs.declared.fault.ReadFault.{ReadFault}
use Rattle.http_text.specs.declared.fault.ReadFault.TheVariants.{Malformed, HostMissingOrRepeated, LengthMissing, BodyTooLong, HeadTooLong, TransferCoding, Expectation, EndedEarly, ReadFailed, OutOfMemory, TurnsExhausted}
use Rattle.http_text.specs.Counts.{Reading, Writing}
use Rattle.http_text.specs.Message.{Message, head_limit, field_limit}
use Rattle.http_text.specs.Forms.{IsRequestMessage, IsAccepted}
use Rattle.http_text.specs.Heads.{IsStreamFault, Answers, AnswersLong}
use Rattle.http_text.specs.Judging.{is_head}
use Rattle.http_text.specs.Requests.{FindsMessage, AnswersMalformed}
use Rattle.scim_http.specs.Meaning.{Asks}
use Rattle.scim_http.proofs.MeaningLaws.{one_meaning}
use Rattle.scim_http.specs.Replies.{ReplyRecord}
use Rattle.connection.specs.declared.answering.Served.{Served}
use Rattle.connection.specs.Serving.{AnswersMeaning, AnswersMessage, GivesUp, LeavesRows, Sends, IsSent, Serves, HasRead}
use Rattle.connection.specs.Known.{IsHindered, MeetsFault, ServesKnown}

module _ (faithful : Type 0) (base : List ℕ) (old new : List StoredRecord) (before after : Writing) (served : Served) where
  hindered : (fault : ReadFault) → IsStreamFault fault → Serves faithful base old new before after (Err fault) served
      → IsHindered faithful old new before after served
  hindered (Malformed is_head) h s = absurd h
  hindered (HostMissingOrRepeated is_head) h s = absurd h
  hindered (LengthMissing is_head) h s = absurd h
  hindered (BodyTooLong is_head) h s = absurd h
  hindered (HeadTooLong is_head) h s = absurd h
  hindered (TransferCoding is_head) h s = absurd h
  hindered (Expectation is_head) h s = absurd h
  hindered EndedEarly h s = absurd h
  hindered ReadFailed h s = inr (ReadFailed, inl refl, s.0, s.1)
  hindered OutOfMemory h s = inl (s.0.0, record { reply_is = s.0.1; rows = λ _. s.1 }, s.0.2)
  hindered TurnsExhausted h s = inr (TurnsExhausted, inr refl, s.0, s.1)

  meets : (fault answered : ReadFault) → (answered ≡ fault) ⊎ IsStreamFault answered
      → Serves faithful base old new before after (Err answered) served
      → MeetsFault base old new before after served fault ⊎ IsHindered faithful old new before after served
  meets fault answered (inl same) s = inl (subst (λ f. Serves faithful base old new before after (Err f) served) same s)
  meets fault answered (inr stream) s = inr (hindered answered stream s)

  -- if this fault, or one of the stream, is what was read
  meets_fault : (fault : ReadFault) (r : Result Message ReadFault) → Answers fault r → Serves faithful base old new before after r served
      → MeetsFault base old new before after served fault ⊎ IsHindered faithful old new before after served
  meets_fault fault (Ok m) h s = absurd h
  meets_fault fault (Err answered) h s = meets fault answered h s

  -- if the head is too long, whether or not its method is HEAD
  meets_long : (r : Result Message ReadFault) → AnswersLong r → Serves faithful base old new before after r served
      → ((is_head : Bool) × MeetsFault base old new before after served (HeadTooLong is_head)) ⊎ IsHindered faithful old new before after served
  meets_long r h s = ⊎_elim (λ met. inl (h.0, met)) (λ none. inr none) (meets_fault (HeadTooLong h.0) r h.1 s)

  answered : (m : Message) (asked : Result Request Refusal) (reply : ReplyRecord) → Asks m asked
      → AnswersMessage faithful base old new m reply ⊎ GivesUp faithful old new reply
      → IsSent before after reply served
      → Sends before after (AnswersMeaning faithful base old new (is_head m.head) asked) served ⊎ IsHindered faithful old new before after served
  answered m asked reply is (inl a) sent =
      let same = one_meaning m a.asked asked a.asked_is is in
      inl (reply, subst (λ k. AnswersMeaning faithful base old new (is_head m.head) k reply) same a.answer, sent)
  answered m asked reply is (inr g) sent = inr (inl (reply, g, sent))

  left_too : {A B C : Type 0} → A ⊎ B → C → (A × C) ⊎ B
  left_too (inl a) c = inl (a, c)
  left_too (inr b) c = inr b

  message : (remaining left : Option (List ℕ)) (r : Result Message ReadFault) → FindsMessage remaining left r
      → Serves faithful base old new before after r served
      → (bytes rest : List ℕ) (m : Message) (asked : Result Request Refusal) → remaining ≡ Some (bytes ++ rest) → IsRequestMessage bytes m → IsAccepted m
      → Asks m asked
      → (Sends before after (AnswersMeaning faithful base old new (is_head m.head) asked) served × (left ≡ Some rest))
      ⊎ IsHindered faithful old new before after served
  message remaining left (Ok found) h s bytes rest m asked at is accepted asks =
      let found_is = h bytes rest m at is accepted in
      let t : Serves faithful base old new before after (Ok m) served = subst (λ k. Serves faithful base old new before after (Ok k) served) found_is.0 s in
      left_too (answered m asked t.0 asks t.1 t.2) found_is.1
  message remaining left (Err fault) h s bytes rest m asked at is accepted asks = inr (hindered fault (h bytes rest m at is accepted) s)

  -- what may come of a malformed head
  malformed : (all : List ℕ) (r : Result Message ReadFault) → AnswersMalformed all r → Serves faithful base old new before after r served
      → ((is_head : Bool) × MeetsFault base old new before after served (Malformed is_head))
      ⊎ ((EndsInTarget (take head_limit all) ⊎ RequestExceeds field_limit all) × ((is_head : Bool) × MeetsFault base old new before after served (HeadTooLong is_head)))
      ⊎ (EndsInTarget all × MeetsFault base old new before after served EndedEarly)
      ⊎ IsHindered faithful old new before after served
  malformed all (Ok m) h s = absurd h
  malformed all (Err (Malformed is_head)) h s = inl (is_head, s)
  malformed all (Err (HostMissingOrRepeated is_head)) h s = absurd h
  malformed all (Err (LengthMissing is_head)) h s = absurd h
  malformed all (Err (BodyTooLong is_head)) h s = absurd h
  malformed all (Err (HeadTooLong is_head)) h s = inr (inl (h, (is_head, s)))
  malformed all (Err (TransferCoding is_head)) h s = absurd h
  malformed all (Err (Expectation is_head)) h s = absurd h
  malformed all (Err EndedEarly) h s = inr (inr (inl (h, s)))
  malformed all (Err ReadFailed) h s = inr (inr (inr (hindered ReadFailed tt s)))
  malformed all (Err OutOfMemory) h s = inr (inr (inr (hindered OutOfMemory tt s)))
  malformed all (Err TurnsExhausted) h s = inr (inr (inr (hindered TurnsExhausted tt s)))

  -- whatever is at the front
  pub serves_known : (reading_old reading_new : Reading) (r : Result Message ReadFault) → HasRead reading_old reading_new r
      → Serves faithful base old new before after r served
      → ServesKnown faithful base old new before after served reading_old.remaining reading_new.remaining
  serves_known reading_old reading_new r read s = record {
    message = message reading_old.remaining reading_new.remaining r read.found s;
    refused_head = λ front rest head fault at is judged. meets_fault fault r (read.refused_head front rest head fault at is judged) s;
    long = λ bytes rest at long. meets_long r (read.long bytes rest at long) s;
    part = λ bytes at part. meets_fault EndedEarly r (read.ended bytes at part) s;
    malformed = λ bytes rest at within never. malformed (bytes ++ rest) r (read.malformed bytes rest at within never) s;
  }

-- a store on which no call was made
pub leaves_all : {R : Type 0} (g : Ghosts R) (r : R) (read : Result Message ReadFault) → LeavesRows g r r read
leaves_all g r read = record { honest = λ honest. honest; stop = λ honest found may. inl may }
