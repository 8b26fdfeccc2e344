-- What a connection does if the reader's bytes are known: from the bytes at the front to what is written.
use Rattle.std.specs.Prelude.{◌≡◌, ℕ, ◌≤◌, ◌⊎◌, Bool, List, ◌++◌, Option, Some, Result, Err, length, take}
use Rattle.httparse.specs.Grammar.{NeverHasRequest, EndsInTarget}
use Rattle.httparse.specs.Spans.{RequestExceeds}
use Rattle.scim_resource.specs.Rows.{StoredRecord}
use Rattle.scim_message.specs.declared.messages.Request.{Request}
use Rattle.scim_message.specs.declared.refusals.Refusal.{Refusal}
use Rattle.http_text.specs.declared.fault.ReadFault.{ReadFault}
use Rattle.http_text.specs.declared.fault.ReadFault.TheVariants.{Malformed, HeadTooLong, EndedEarly, ReadFailed, TurnsExhausted}
use Rattle.http_text.specs.Counts.{Writing}
use Rattle.http_text.specs.Message.{Head, Message, head_limit, field_limit}
use Rattle.http_text.specs.Forms.{IsRequestHead, IsRequestMessage, IsAccepted}
use Rattle.http_text.specs.Judging.{judge_head, is_head}
use Rattle.http_text.specs.Requests.{IsPartOfHead, IsPartOfBody, IsLongPart, HasLongSection}
use Rattle.scim_http.specs.Meaning.{Asks}
use Rattle.connection.specs.declared.answering.Served.{Served}
use Rattle.connection.specs.Reactions.{reaction_to}
use Rattle.connection.specs.Serving.{AnswersMeaning, GivesUp, Sends, IsSilent, Reacts}

-- the reader failed, or gave no whole request within its turns
abbrev pub IsReaderFault : ReadFault → Type 0
IsReaderFault fault = (fault ≡ ReadFailed) ⊎ (fault ≡ TurnsExhausted)

-- the store failed or memory ran out, and the fixed text was sent; or the reader failed, and nothing was sent
abbrev pub IsHindered : (faithful : Type 0) → (old new : List StoredRecord) → (before after : Writing) → Served → Type 0
IsHindered faithful old new before after served =
    Sends before after (GivesUp faithful old new) served
    ⊎ ((fault : ReadFault) × IsReaderFault fault × IsSilent before after fault served × (new ≡ old))

-- the reaction to a fault of reading, and unchanged rows
abbrev pub MeetsFault : List ℕ → (old new : List StoredRecord) → (before after : Writing) → Served → ReadFault → Type 0
MeetsFault base old new before after served fault =
    Reacts base before after fault (reaction_to fault) served × (new ≡ old)

-- What a connection does if the reader's bytes are known
pub record ServesKnown (faithful : Type 0) (base : List ℕ) (old new : List StoredRecord)
    (before after : Writing) (served : Served) (remaining left : Option (List ℕ)) : Type 0 where
  -- what an accepted message at the front asks for is answered, and what follows it is left
  pub message : (bytes rest : List ℕ) (m : Message) (asked : Result Request Refusal)
      → remaining ≡ Some (bytes ++ rest) → IsRequestMessage bytes m → IsAccepted m
      → Asks m asked
      → (Sends before after (AnswersMeaning faithful base old new (is_head m.head) asked) served × (left ≡ Some rest))
      ⊎ IsHindered faithful old new before after served
  -- a refused head at the front is refused, whatever follows
  pub refused_head : (front rest : List ℕ) (head : Head) (fault : ReadFault)
      → remaining ≡ Some (front ++ rest) → IsRequestHead front head
      → judge_head head ≡ Err fault
      → MeetsFault base old new before after served fault ⊎ IsHindered faithful old new before after served
  -- a head beyond a limit is refused
  pub long : (bytes rest : List ℕ) → remaining ≡ Some (bytes ++ rest) → IsLongPart bytes ⊎ HasLongSection bytes
      → ((is_head : Bool) × MeetsFault base old new before after served (HeadTooLong is_head))
      ⊎ IsHindered faithful old new before after served
  -- only a part of a request isn't a request
  pub part : (bytes : List ℕ) → remaining ≡ Some bytes → IsPartOfHead bytes ⊎ IsPartOfBody bytes
      → MeetsFault base old new before after served EndedEarly ⊎ IsHindered faithful old new before after served
  -- bytes that no bytes complete to a head are malformed; in a target that may be noticed only at its end, and among
  -- field lines beyond the limit not at all
  pub malformed : (bytes rest : List ℕ) → remaining ≡ Some (bytes ++ rest) → length bytes ≤ head_limit
      → NeverHasRequest bytes
      → ((is_head : Bool) × MeetsFault base old new before after served (Malformed is_head))
      ⊎ ((EndsInTarget (take head_limit (bytes ++ rest)) ⊎ RequestExceeds field_limit (bytes ++ rest))
      × ((is_head : Bool) × MeetsFault base old new before after served (HeadTooLong is_head)))
      ⊎ (EndsInTarget (bytes ++ rest) × MeetsFault base old new before after served EndedEarly)
      ⊎ IsHindered faithful old new before after served
