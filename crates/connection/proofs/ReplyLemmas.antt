-- The one reply of a connection, and what was sent.
use Rattle.std.proofs.Common.{ℕ, List, Option, Some, None, Result, Ok, Err, refl, ap, subst, inl, inr}
use Rattle.provider_core.specs.declared.registry.Registry.{Ghosts}
use Rattle.http_text.specs.declared.fault.ReadFault.{ReadFault}
use Rattle.http_text.specs.Counts.{Writing}
use Rattle.http_text.specs.Message.{Message}
use Rattle.scim_http.specs.Replies.{ReplyRecord}
use Rattle.connection.specs.Reactions.{reaction_to}
use Rattle.connection.specs.declared.answering.Served.{Served}
use Rattle.connection.specs.declared.reactions.Reaction.{Reaction}
use Rattle.connection.specs.declared.reactions.Reaction.TheVariants.{Refuse, GiveUp, StaySilent}
use Rattle.connection.specs.Serving.{Reacts, Replies, RepliesTo, SendsReply, Serves}

module _ (base : List ℕ) (before after : Writing) (fault : ReadFault) (served : Served) where
  -- the reply of a reaction, and what of it was written
  abbrev Names : Reaction → Type 0
  Names reaction = (reply : Option ReplyRecord) × RepliesTo base reaction reply × SendsReply before after reply (Err fault) served

  names : (reaction : Reaction) → Reacts base before after fault reaction served → Names reaction
  names (Refuse refusal leaves_body_out) sends = (Some sends.0, (sends.0, refl, sends.1), sends.2)
  names GiveUp sends = (Some sends.0, (sends.0, refl, sends.1), sends.2)
  names StaySilent silent = (None, refl, silent)

  pub named_reply : Reacts base before after fault (reaction_to fault) served → Names (reaction_to fault)
  named_reply reacts = names (reaction_to fault) reacts

  reacts : (reaction : Reaction) (reply : Option ReplyRecord) → RepliesTo base reaction reply → SendsReply before after reply (Err fault) served
      → Reacts base before after fault reaction served
  reacts (Refuse refusal leaves_body_out) reply is sends = (is.0, is.2, subst (λ (r : Option ReplyRecord). SendsReply before after r (Err fault) served) is.1 sends)
  reacts GiveUp reply is sends = (is.0, is.2, subst (λ (r : Option ReplyRecord). SendsReply before after r (Err fault) served) is.1 sends)
  reacts StaySilent reply is sends = subst (λ (r : Option ReplyRecord). SendsReply before after r (Err fault) served) is sends

-- what was sent, without what the store did
module _ {R : Type 0} (g : Ghosts R) (base : List ℕ) (old new : R) (before after : Writing) (served : Served) where
  pub sent_so : (read : Result Message ReadFault) (reply : Option ReplyRecord) → Replies g base old new read reply → SendsReply before after reply read served
      → Serves (g.is_faithful new) base (g.rows old) (g.rows new) before after read served
  sent_so (Ok m) reply replies sends =
      let sent = subst (λ (r : Option ReplyRecord). SendsReply before after r (Ok m) served) replies.1 sends in
      elim (replies.2) [
        | inl answers ↦ (replies.0, inl answers.0, sent)
        | inr gives_up ↦ (replies.0, inr gives_up, sent)
      ]
  sent_so (Err fault) reply replies sends = (reacts base before after fault served (reaction_to fault) reply replies.0 sends, ap g.rows replies.1)
