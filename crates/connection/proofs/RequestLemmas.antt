-- From what connections did to the rows to the requests that did it.
use Rattle.std.proofs.Common.{◌≡◌, ℕ, suc, ◌⊎◌, inl, inr, List, [], ◌∷◌, length, Option, Result, Ok, Err, Bool, ap, ◌∙◌, subst, arith}
use Rattle.scim_resource.specs.Rows.{StoredRecord}
use Rattle.scim_message.specs.declared.messages.Request.{Request}
use Rattle.scim_message.specs.declared.refusals.Refusal.{Refusal}
use Rattle.provider_core.specs.declared.registry.Registry.{Ghosts}
use Rattle.provider_core.specs.Outcomes.{outcome, changed_rows}
use Rattle.http_text.specs.declared.fault.ReadFault.{ReadFault}
use Rattle.http_text.specs.Counts.{Writing, fresh_writing}
use Rattle.http_text.specs.Message.{Message}
use Rattle.http_text.specs.Judging.{is_head}
use Rattle.scim_http.specs.Replies.{ReplyRecord}
use Rattle.connection.specs.declared.answering.Served.{Served}
use Rattle.connection.specs.Serving.{AnswersMeaning, AnswersMessage, GivesUp, Serves}
use Rattle.connection.proofs.ReplyLemmas.{sent_so}
use Rattle.connection.specs.Turns.{Turn, taken, unopened, IsTurn, AreTurns}
use Rattle.connection.specs.Requests.{rows_after, FollowRequests}

-- the rows are as they were, or as one request makes them
abbrev Changes : (old new : List StoredRecord) → Type 0
Changes old new = (new ≡ old) ⊎ ((request : Request) × (new ≡ changed_rows old (outcome old request).change))

module _ (faithful : Type 0) (base : List ℕ) (old new : List StoredRecord) where
  meaning_changes : (leaves_body_out : Bool) (reply : ReplyRecord) (asked : Result Request Refusal)
      → AnswersMeaning faithful base old new leaves_body_out asked reply → faithful → Changes old new
  meaning_changes leaves reply (Ok request) a f = inr (request, a.rows f)
  meaning_changes leaves reply (Err refusal) a f = inl a.rows

  message_changes : (m : Message) (reply : ReplyRecord) → AnswersMessage faithful base old new m reply ⊎ GivesUp faithful old new reply → faithful → Changes old new
  message_changes m reply (inl a) f = meaning_changes (is_head m.head) reply a.asked a.answer f
  message_changes m reply (inr g) f = inl (g.rows f)

  serves_changes : (before after : Writing) (read : Result Message ReadFault) (served : Served)
      → Serves faithful base old new before after read served → faithful → Changes old new
  serves_changes before after (Ok m) served s f = message_changes m s.0 s.1 f
  serves_changes before after (Err fault) served s f = inl s.1

module _ {I O R : Type 0} (remaining : I → Option (List ℕ)) (contents : O → Option (List ℕ)) (g : Ghosts R) (base : List ℕ) where
  turn_changes : (turn : Turn I O) (old new : R) → IsTurn remaining contents g base turn old new → g.is_faithful new → Changes (g.rows old) (g.rows new)
  turn_changes (taken reader writer served) old new is f =
      serves_changes (g.is_faithful new) base (g.rows old) (g.rows new) (fresh_writing (contents writer)) is.written is.replied.read served
      (sent_so g base old new (fresh_writing (contents writer)) is.written served is.replied.read is.replied.reply is.replied.replies is.replied.sends) f
  turn_changes unopened old new is f = inl (ap g.rows is)

  turn_was : (turn : Turn I O) (old new : R) → IsTurn remaining contents g base turn old new → g.is_faithful new → g.is_faithful old
  turn_was (taken reader writer served) old new is f = is.quiet.was f
  turn_was unopened old new is f = subst g.is_faithful is f

  turns_were : (turns : List (Turn I O)) (old new : R) → AreTurns remaining contents g base turns old new → g.is_faithful new → g.is_faithful old
  turns_were [] old new are f = subst g.is_faithful are f
  turns_were (turn ∷ turns) old new are f = turn_was turn old are.0 are.1 (turns_were turns are.0 new are.2 f)

  one_first : (old between new : List StoredRecord) (most : ℕ) → Changes old between → FollowRequests between new most → FollowRequests old new (suc most)
  one_first old between new most (inl same) follow = record {
    requests = follow.requests;
    rows = follow.rows ∙ ap (λ rows. rows_after rows follow.requests) same;
    count = let h = follow.count in omega arith;
  }
  one_first old between new most (inr made) follow = record {
    requests = made.0 ∷ follow.requests;
    rows = follow.rows ∙ ap (λ rows. rows_after rows follow.requests) made.1;
    count = let h = follow.count in omega arith;
  }

  pub turns_follow : (turns : List (Turn I O)) (old new : R) → AreTurns remaining contents g base turns old new → g.is_faithful new
      → FollowRequests (g.rows old) (g.rows new) (length turns)
  turns_follow [] old new are f = record { requests = []; rows = ap g.rows are; count = omega arith }
  turns_follow (turn ∷ turns) old new are f =
      let between = turns_were turns are.0 new are.2 f in
      one_first (g.rows old) (g.rows are.0) (g.rows new) (length turns) (turn_changes turn old are.0 are.1 between) (turns_follow turns are.0 new are.2 f)
