use Rattle.std.proofs.Common.{◌≡◌, Err, IfOk, OnOk, subst, rules}
use Rattle.std.specs.FinMap.{keys}
use Rattle.connector_core.specs.Learning as spec
use Rattle.connector_core.specs.Maps.{book_of}
use Rattle.connector_core.specs.State.{Leaves, LeavesBook}
use Rattle.scim_message.specs.declared.messages.Answer.{Answer}
use Rattle.world_model.specs.Reports.{Taught, learnt_of}
use Rattle.world_sim.specs.Events.{report_of}
use Rattle.world_sim.specs.Reading.{IsOrMemory}
use Rattle.world_sim.specs.declared.reading.ReadingFault.TheVariants.{Unread}
use Rattle.world_sim.proofs.Readings.{no_unread, one_read}
use Rattle.world_sim.proofs.learning.hear.Goals as goal

pub returns-in-Ok-clause-report : goal.returns-in-Ok-clause-report
returns-in-Ok-clause-report g c = λ answer reads.
    subst (λ (a : Answer). IfOk c.learn.result (λ told. report_of told ≡ Taught (learnt_of (spec.learn (book_of c.args.connector.now.book) c.args.request.now a))))
    (one_read answer c.in-Ok.answer (c.in-Ok.ensures.only answer reads)) c.learn.ensures.report

pub returns-in-Ok-clause-book : goal.returns-in-Ok-clause-book
returns-in-Ok-clause-book g c = λ answer reads.
    subst (λ (a : Answer). OnOk c.learn.result (book_of c.learn.new.connector.book ≡ spec.after_learning (book_of c.args.connector.now.book) (spec.learn (book_of c.args.connector.now.book) c.args.request.now a)))
    (one_read answer c.in-Ok.answer (c.in-Ok.ensures.only answer reads)) c.learn.ensures.book

pub returns-in-Err-Unread-clause-report : goal.returns-in-Err-Unread-clause-report
returns-in-Err-Unread-clause-report g c =
    let unread : c.in-Err-Unread.field-0 ≡ Unread = search rules in
    λ answer reads. absurd (no_unread answer (subst (λ f. IsOrMemory answer (Err f)) unread (c.in-Err-Unread.ensures.only answer reads)))

pub returns-in-Err-Unread-clause-book : goal.returns-in-Err-Unread-clause-book
returns-in-Err-Unread-clause-book g c =
    let unread : c.in-Err-Unread.field-0 ≡ Unread = search rules in
    λ answer reads. absurd (no_unread answer (subst (λ f. IsOrMemory answer (Err f)) unread (c.in-Err-Unread.ensures.only answer reads)))

pub returns-in-Ok-clause-leaves : goal.returns-in-Ok-clause-leaves
returns-in-Ok-clause-leaves g c = λ answer reads.
    let before = c.args.connector.now in
    subst (λ (a : Answer). g.J.Journal.is_honest c.learn.new.connector.journal → LeavesBook g.J.Journal before
    → Leaves g.J.Journal before c.learn.new.connector (spec.after_learning (book_of before.book) (spec.learn (book_of before.book) c.args.request.now a)) (keys before.book) c.learn.result)
    (one_read answer c.in-Ok.answer (c.in-Ok.ensures.only answer reads)) c.learn.ensures.leaves

pub returns-in-Err-Unread-clause-leaves : goal.returns-in-Err-Unread-clause-leaves
returns-in-Err-Unread-clause-leaves g c =
    let unread : c.in-Err-Unread.field-0 ≡ Unread = search rules in
    λ answer reads. absurd (no_unread answer (subst (λ f. IsOrMemory answer (Err f)) unread (c.in-Err-Unread.ensures.only answer reads)))
