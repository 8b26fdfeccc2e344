-- What one connection does: what it writes, and how the rows change.
use Rattle.std.specs.Prelude.{◌≡◌, ℕ, ◌⊎◌, Bool, true, List, [], Option, Some, None, Result, Ok, Err, IfOk, IfErr, OnOk}
use Rattle.std.specs.Io.KnownBytes.{Appends}
use Rattle.std.specs.Str.{IsUtf8}
use Rattle.scim_resource.specs.Rows.{StoredRecord}
use Rattle.scim_message.specs.Bodies.{body_text}
use Rattle.scim_message.specs.Fitting.{ShowsLawfully}
use Rattle.scim_message.specs.declared.messages.Answer.{Answer}
use Rattle.scim_message.specs.declared.messages.Answer.TheVariants.{Error}
use Rattle.scim_message.specs.declared.messages.Request.{Request}
use Rattle.scim_message.specs.declared.refusals.Refusal.{Refusal}
use Rattle.scim_message.specs.Refusals.{error_of}
use Rattle.provider_core.specs.Outcomes.{outcome, changed_rows}
use Rattle.provider_core.specs.Stores.{LeavesOr}
use Rattle.provider_core.specs.declared.registry.Registry.{Ghosts}
use Rattle.http_text.specs.declared.fault.ReadFault.{ReadFault}
use Rattle.http_text.specs.declared.fault.SendFault.{SendFault}
use Rattle.http_text.specs.Counts.{Reading, Writing, count_up, CountsTurns}
use Rattle.http_text.specs.Message.{Message}
use Rattle.http_text.specs.Judging.{is_head}
use Rattle.http_text.specs.Heads.{EndsReading}
use Rattle.http_text.specs.Requests.{TakesMessage, TakesRefused, FindsMessage, FindsRefusedHead, FindsEnd, FindsLong, FindsMalformed}
use Rattle.http_text.specs.Sending.{IsLost, EndsSending}
use Rattle.scim_http.specs.Meaning.{Asks}
use Rattle.scim_http.specs.Replies.{ReplyRecord, reply_of, fixed_reply}
use Rattle.connection.specs.declared.answering.Served.{Served}
use Rattle.connection.specs.declared.answering.Served.TheVariants.{Answered, NoRequest, Lost}
use Rattle.connection.specs.declared.reactions.Reaction.{Reaction}
use Rattle.connection.specs.declared.reactions.Reaction.TheVariants.{Refuse, GiveUp, StaySilent}
use Rattle.connection.specs.Reactions.{reaction_to}

-- the model's answer to a request, and its change of the rows, while the store is faithful; what the answer shows is
-- valid, and its body is UTF-8
pub record AnswersRequest (faithful : Type 0) (base : List ℕ) (old new : List StoredRecord)
    (leaves_body_out : Bool) (request : Request) (reply : ReplyRecord) : Type 0 where
  pub answer : Answer
  pub reply_is : reply ≡ reply_of base leaves_body_out answer
  pub lawful : ShowsLawfully answer
  pub utf8 : IsUtf8 (body_text base answer)
  pub answer_is : faithful → answer ≡ (outcome old request).answer
  pub rows : faithful → new ≡ changed_rows old (outcome old request).change

-- the error message of a refusal
abbrev pub refusal_reply : List ℕ → Bool → Refusal → ReplyRecord
refusal_reply base leaves_body_out refusal = reply_of base leaves_body_out (Error (error_of refusal))

-- the error message of a refusal, and unchanged rows
pub record AnswersRefusal (base : List ℕ) (old new : List StoredRecord) (leaves_body_out : Bool)
    (refusal : Refusal) (reply : ReplyRecord) : Type 0 where
  pub reply_is : reply ≡ refusal_reply base leaves_body_out refusal
  pub rows : new ≡ old

-- the fixed text, and unchanged rows
pub record GivesUp (faithful : Type 0) (old new : List StoredRecord) (reply : ReplyRecord) : Type 0 where
  pub reply_is : reply ≡ fixed_reply
  pub rows : faithful → new ≡ old

-- the answer to a request, or to a refusal
abbrev pub AnswersMeaning : (faithful : Type 0) → List ℕ → (old new : List StoredRecord) → Bool
    → Result Request Refusal → ReplyRecord → Type 0
AnswersMeaning faithful base old new leaves_body_out (Ok request) reply =
    AnswersRequest faithful base old new leaves_body_out request reply
AnswersMeaning faithful base old new leaves_body_out (Err refusal) reply =
    AnswersRefusal base old new leaves_body_out refusal reply

-- what a message asks for is answered
pub record AnswersMessage (faithful : Type 0) (base : List ℕ) (old new : List StoredRecord)
    (m : Message) (reply : ReplyRecord) : Type 0 where
  pub asked : Result Request Refusal
  pub asked_is : Asks m asked
  pub answer : AnswersMeaning faithful base old new (is_head m.head) asked reply

-- a reply was written whole and flushed, or was lost in agreement with the writer's counts
abbrev pub IsSent : Writing → Writing → ReplyRecord → Served → Type 0
IsSent before after reply (Answered status) =
    (status ≡ reply.status) × Appends before.contents after.contents reply.text
    × (after.flushes ≡ count_up before.flushes 1) × (after.failures ≡ before.failures)
IsSent before after reply (NoRequest fault) = ⊥
IsSent before after reply (Lost status) =
    (status ≡ reply.status) × ((fault : SendFault) × IsLost before after reply.text fault
    × EndsSending before after fault)

-- a reply of this kind was sent
abbrev pub Sends : Writing → Writing → (ReplyRecord → Type 0) → Served → Type 0
Sends before after IsReply served = (reply : ReplyRecord) × IsReply reply × IsSent before after reply served

-- nothing was written
pub record IsSilent (before after : Writing) (fault : ReadFault) (served : Served) : Type 0 where
  pub served_is : served ≡ NoRequest fault
  pub written : after ≡ before

-- the error message of a refusal, or the fixed text instead
abbrev pub AnswersFault : List ℕ → Bool → Refusal → ReplyRecord → Type 0
AnswersFault base leaves_body_out refusal reply = (reply ≡ refusal_reply base leaves_body_out refusal)
    ⊎ (reply ≡ fixed_reply)

-- the reaction to a fault of reading
abbrev pub Reacts : List ℕ → (before after : Writing) → ReadFault → Reaction → Served → Type 0
Reacts base before after fault (Refuse refusal leaves_body_out) served =
    Sends before after (AnswersFault base leaves_body_out refusal) served
Reacts base before after fault GiveUp served = Sends before after (λ reply. reply ≡ fixed_reply) served
Reacts base before after fault StaySilent served = IsSilent before after fault served

-- What follows from what was read. A message gets its answer, or the fixed text if the store failed or memory ran out.
-- A fault gets its reaction, and the rows stay
abbrev pub Serves : (faithful : Type 0) → List ℕ → (old new : List StoredRecord)
    → (before after : Writing) → Result Message ReadFault → Served → Type 0
Serves faithful base old new before after (Ok m) served =
    Sends before after (λ reply. AnswersMessage faithful base old new m reply ⊎ GivesUp faithful old new reply) served
Serves faithful base old new before after (Err fault) served =
    Reacts base before after fault (reaction_to fault) served × (new ≡ old)

-- ---- what the store holds afterwards, whether or not a fault has shut it

-- the rows after the request that was read
abbrev pub IsAfter : List StoredRecord → Result Message ReadFault → List StoredRecord → Type 0
IsAfter rows (Ok m) found = (request : Request) × Asks m (Ok request)
    × (found ≡ changed_rows rows (outcome rows request).change)
IsAfter rows (Err fault) found = ⊥

-- whatever a stop may leave now, it could have left before, or it is the rows after the request that was read
pub record LeavesRows {R : Type 0} (g : Ghosts R) (old new : R) (read : Result Message ReadFault) : Type 0 where
  pub honest : g.is_honest new → g.is_honest old
  pub stop : g.is_honest new → LeavesOr (g.may_hold old) (g.may_hold new) (λ found. g.is_faithful old
      × IsAfter (g.rows old) read found)

-- no fault of the store was counted, and an open store stays open
pub record IsUnharmed {R : Type 0} (g : Ghosts R) (old new : R) : Type 0 where
  pub counts : g.faults new ≡ g.faults old
  pub stays_open : g.is_honest new → g.is_faithful old → g.is_faithful new

-- no fault of the store was counted, or the fixed text was sent
abbrev pub AnswersFaults : {R : Type 0} → Ghosts R → (old new : R) → (before after : Writing) → Served → Type 0
AnswersFaults g old new before after served = IsUnharmed g old new
    ⊎ Sends before after (λ reply. reply ≡ fixed_reply) served

-- if a search was stopped, the fixed text was sent: whether the last one was stopped is `stopped` and `stops`
abbrev pub AnswersStop : (stopped stops : Bool) → (before after : Writing) → Served → Type 0
AnswersStop stopped stops before after served = stops ≡ true → (stopped ≡ true)
    ⊎ Sends before after (λ reply. reply ≡ fixed_reply) served

-- what was read, as the reader of requests reports it
pub record HasRead (old new : Reading) (r : Result Message ReadFault) : Type 0 where
  pub message : IfOk r (TakesMessage old.remaining new.remaining)
  pub refused : IfErr r (TakesRefused old.remaining new.remaining)
  pub found : FindsMessage old.remaining new.remaining r
  pub refused_head : FindsRefusedHead old.remaining r
  pub ended : FindsEnd old.remaining r
  pub long : FindsLong old.remaining r
  pub malformed : FindsMalformed old.remaining r
  pub counts : CountsTurns old.calls new.calls
  pub clean : OnOk r (new.failures ≡ old.failures)
  pub fault : IfErr r (EndsReading old new)

-- ---- the reply of a connection

-- there is a reply, of this kind
abbrev pub HasReply : Option ReplyRecord → (ReplyRecord → Type 0) → Type 0
HasReply reply IsReply = (sent : ReplyRecord) × (reply ≡ Some sent) × IsReply sent

-- the reply to a fault of reading, or none
abbrev pub RepliesTo : List ℕ → Reaction → Option ReplyRecord → Type 0
RepliesTo base (Refuse refusal leaves_body_out) reply = HasReply reply (AnswersFault base leaves_body_out refusal)
RepliesTo base GiveUp reply = HasReply reply (λ sent. sent ≡ fixed_reply)
RepliesTo base StaySilent reply = reply ≡ None

-- The reply to what was read, and what the store did. A message gets its answer, and the store had no fault; or the
-- message gets the fixed text. A fault of reading leaves the store as it is
abbrev pub Replies : {R : Type 0} → Ghosts R → List ℕ → (old new : R) → Result Message ReadFault
    → Option ReplyRecord → Type 0
Replies g base old new (Ok m) reply =
    HasReply reply (λ sent.
    (AnswersMessage (g.is_faithful new) base (g.rows old) (g.rows new) m sent × IsUnharmed g old new)
    ⊎ GivesUp (g.is_faithful new) (g.rows old) (g.rows new) sent)
Replies g base old new (Err fault) reply = RepliesTo base (reaction_to fault) reply × (new ≡ old)

-- the reply was sent, or lost in agreement with the writer's counts; without a reply nothing was written
abbrev pub SendsReply : (before after : Writing) → Option ReplyRecord → Result Message ReadFault → Served → Type 0
SendsReply before after (Some reply) read served = IsSent before after reply served
SendsReply before after None (Ok m) served = ⊥
SendsReply before after None (Err fault) served = IsSilent before after fault served

-- the text of the reply
abbrev pub reply_text : Option ReplyRecord → List ℕ
reply_text (Some reply) = reply.text
reply_text None = []

-- One connection: what was read, the one reply to it, and what of the reply was written
pub record IsReplied {R : Type 0} (g : Ghosts R) (base : List ℕ) (old new : R) (first left : Reading)
    (before after : Writing) (served : Served) : Type 0 where
  pub read : Result Message ReadFault
  pub reply : Option ReplyRecord
  pub has_read : HasRead first left read
  pub replies : Replies g base old new read reply
  pub sends : SendsReply before after reply read served
  pub leaves : LeavesRows g old new read
