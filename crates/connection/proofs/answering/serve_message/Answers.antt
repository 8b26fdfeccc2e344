use Rattle.std.proofs.Common.{inl, inr, refl, subst}
use Rattle.scim_http.specs.Replies.{ReplyRecord, fixed_reply}
use Rattle.connection.specs.Serving.{IsSent}
use Rattle.connection.proofs.answering.serve_message.Goals as goal

pub returns-in-Err-clause-served : goal.returns-in-Err-clause-served
returns-in-Err-clause-served g c = (fixed_reply, inr (record { reply_is = refl; rows = c.in-Err.ensures.same }), c.send_fixed.ensures.sent)

pub returns-in-Ok-clause-faults : goal.returns-in-Ok-clause-faults
returns-in-Ok-clause-faults g c = inl (record { counts = c.in-Ok.ensures.counted; stays_open = c.in-Ok.ensures.open })

pub returns-in-Err-clause-faults : goal.returns-in-Err-clause-faults
returns-in-Err-clause-faults g c = inr (fixed_reply, refl, c.send_fixed.ensures.sent)

pub returns-in-Ok-clause-replied : goal.returns-in-Ok-clause-replied
returns-in-Ok-clause-replied g c =
    let e = c.in-Ok.ensures in
    let sent : IsSent c.args.writer.now c.sent.new.writer c.in-Ok.reply c.sent.result =
    subst (λ (r : ReplyRecord). IsSent c.args.writer.now c.sent.new.writer r c.sent.result) (λ i. record { status = c.status.ensures i; text = c.text.ensures i }) c.sent.ensures.sent in
    (c.in-Ok.reply, (c.in-Ok.reply, refl, inl (e.reply, record { counts = e.counted; stays_open = e.open })), sent)

pub returns-in-Err-clause-replied : goal.returns-in-Err-clause-replied
returns-in-Err-clause-replied g c = (fixed_reply, (fixed_reply, refl, inr (record { reply_is = refl; rows = c.in-Err.ensures.same })), c.send_fixed.ensures.sent)

pub returns-in-Err-clause-stops : goal.returns-in-Err-clause-stops
returns-in-Err-clause-stops g c = λ stops. inr (fixed_reply, refl, c.send_fixed.ensures.sent)
