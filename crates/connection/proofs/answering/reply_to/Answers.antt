use Rattle.std.proofs.Common.{◌≡◌, Ok, Err, refl, subst, inl, inr, rules}
use Rattle.std.specs.Prelude.{IfOk}
use Rattle.scim_http.specs.declared.requests.MeaningFault.TheVariants.{Refused}
use Rattle.scim_http.specs.Meaning.{Asks, TellsOf}
use Rattle.scim_http.proofs.SearchLemmas.{if_ok}
use Rattle.connection.specs.Serving.{AnswersRequest}
use Rattle.connection.proofs.ServedLemmas.{leaves_all}
use Rattle.connection.proofs.answering.reply_to.Goals as goal

pub returns-in-Ok-clause-reply : goal.returns-in-Ok-clause-reply
returns-in-Ok-clause-reply g c =
    let faithful = g.R.Registry.is_faithful c.carry_out.new.provider in
    let old = g.R.Registry.rows c.args.provider.now in
    let new = g.R.Registry.rows c.carry_out.new.provider in
    let answered = subst (λ head. IfOk c.carry_out.result (AnswersRequest faithful c.args.base.now old new head c.in-Ok.request)) c.is_head-leaves_body_out.ensures c.carry_out.ensures.reply in
    if_ok c.carry_out.result (λ reply answer. record { asked = Ok c.in-Ok.request; asked_is = c.in-Ok.ensures; answer = answer }) answered

pub returns-in_ok-refusal_reply-in-Err-Refused-clause-reply : goal.returns-in_ok-refusal_reply-in-Err-Refused-clause-reply
returns-in_ok-refusal_reply-in-Err-Refused-clause-reply g c =
    let refused : c.in-Err-Refused.field-0 ≡ Refused c.in-Err-Refused.refusal = search rules in
    let asks = subst (λ fault. TellsOf (Asks c.args.incoming.now) (Err fault)) refused c.in-Err-Refused.ensures in
    record { asked = Err c.in-Err-Refused.refusal; asked_is = asks; answer = record { reply_is = search rules; rows = refl } }

pub returns-in-Ok-clause-leaves : goal.returns-in-Ok-clause-leaves
returns-in-Ok-clause-leaves g c =
    let writes = c.carry_out.ensures.writes in
    record {
      honest = writes.honest;
      stop = λ honest found may. elim (writes.stop honest found may) [
        | inl before ↦ inl before
        | inr after ↦ inr (after.0, (c.in-Ok.request, c.in-Ok.ensures, after.1))
      ];
    }

pub returns-in_ok-refusal_reply-in-Err-Refused-clause-leaves : goal.returns-in_ok-refusal_reply-in-Err-Refused-clause-leaves
returns-in_ok-refusal_reply-in-Err-Refused-clause-leaves g c = leaves_all g.R.Registry _ _

pub returns-in_err-refusal_reply-in-Err-Refused-clause-leaves : goal.returns-in_err-refusal_reply-in-Err-Refused-clause-leaves
returns-in_err-refusal_reply-in-Err-Refused-clause-leaves g c = leaves_all g.R.Registry _ _

pub returns-in-Err-OutOfMemory-clause-leaves : goal.returns-in-Err-OutOfMemory-clause-leaves
returns-in-Err-OutOfMemory-clause-leaves g c = leaves_all g.R.Registry _ _
