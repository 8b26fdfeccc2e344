use Rattle.std.proofs.Common.{◌≡◌, suc, [], ◌∷◌, ◌++◌, length, refl, ap, ◌∙◌, subst, rules}
use Rattle.std.proofs.lemmas.Result.{err_from_is_err_and}
use Rattle.scim_message.specs.Messages.{answer_status}
use Rattle.world_model.specs.Reports as model
use Rattle.world_model.specs.World.{Answered}
use Rattle.world_sim.specs.Fitting.{IsFormed}
use Rattle.world_sim.specs.Events.{world_fault}
use Rattle.world_sim.specs.Messages.{message_text}
use Rattle.world_sim.specs.declared.messages.Said.TheVariants as said
use Rattle.world_sim.specs.declared.messages.Sent.{Sent}
use Rattle.world_sim.specs.declared.reports.WorldFault.TheVariants.{Memory}
use Rattle.world_sim.specs.GoingOn.{unknown_entries}
use Rattle.world_sim.proofs.Restarts.{fails_to_read, fails_to_write, provider_counts}
use Rattle.world_sim.proofs.Steps.{answers}
use Rattle.world_sim.proofs.worlds.World.answer.Goals as goal

pub returns-clause-done : goal.returns-clause-done
returns-clause-done g c =
    let reads = c.in_ok-pending.ensures.reads in
    let writes = c.in_ok-answer.ensures.writes in
    let message : Sent = record { said = said.Answered (record { request = c.args.request }) c.in_ok-answer.answer; bytes = c.in_ok-pending.bytes } in
    let base : c.base-base.result.now ≡ c.args.self.now.service = search rules in
    let answer : c.in_ok-answer.answer ≡ c.in_ok-pending.pending.answer = search rules in
    let text : c.in_ok-pending.bytes.items ≡ message_text c.args.self.now.service (Answered c.args.request c.in_ok-pending.pending.answer) = search rules in
    let sent : c.push.new.self.items ≡ c.args.self.now.sent.items ++ message ∷ [] = search rules in
    let many : c.len-number.result ≡ suc (length c.args.self.now.sent.items) = search rules in
    let status : c.status-status.result ≡ answer_status c.in_ok-pending.pending.answer = search rules in
    answers g.R.Registry (unknown_entries g.J.Journal) c.args.self.now _ c.prepared.new.provider c.in_ok-pending.pending c.args.request message _
    refl refl sent reads.honest writes.honest reads.was reads.opened c.in_ok-answer.ensures.open reads.same
    c.in_ok-pending.ensures.ok
    writes.done (g.met.R.Registry.settled c.commit.new.self)
    (record { is = ap (Answered c.args.request) answer; text = text })
    (subst (λ b. IsFormed b (Answered c.args.request c.in_ok-pending.pending.answer)) base c.in_ok-pending.ensures.formed)
    (ap (λ n. model.Answering n c.status-status.result) many ∙ ap (model.Answering (suc (length c.args.self.now.sent.items))) status)

pub returns-in_err-reserve-clause-fails : goal.returns-in_err-reserve-clause-fails
returns-in_err-reserve-clause-fails g c =
    let sent : c.reserve.new.self.items ≡ c.args.self.now.sent.items = search rules in
    let p = err_from_is_err_and c.from_residual.result c.from_residual.ensures.1 in
    rw (p.1, p.2) (fails_to_read g.R.Registry (unknown_entries g.J.Journal) c.args.self.now _ c.args.request Memory refl refl sent (λ honest. honest) (λ faithful. faithful) (λ faithful. refl) (λ honest found holds. holds) refl)

pub returns-in_err-pending-clause-fails : goal.returns-in_err-pending-clause-fails
returns-in_err-pending-clause-fails g c =
    let reads = c.in_err-pending.ensures.reads in
    let sent : c.reserve.new.self.items ≡ c.args.self.now.sent.items = search rules in
    let p = err_from_is_err_and c.from_residual-in_err-pending.result c.from_residual-in_err-pending.ensures.1 in
    rw (p.1, p.2) (fails_to_read g.R.Registry (unknown_entries g.J.Journal) c.args.self.now _ c.args.request c.in_err-pending.field-0.0 refl refl sent reads.honest reads.was reads.same reads.stop reads.counted)

pub returns-in_err-answer-clause-fails : goal.returns-in_err-answer-clause-fails
returns-in_err-answer-clause-fails g c =
    let r = g.R.Registry in
    let reads = c.in_ok-pending.ensures.reads in
    let writes = c.in_err-answer.ensures.writes in
    let sent : c.reserve.new.self.items ≡ c.args.self.now.sent.items = search rules in
    let p = err_from_is_err_and c.from_residual-in_err-answer.result c.from_residual-in_err-answer.ensures.1 in
    rw (p.1, p.2) (fails_to_write r (unknown_entries g.J.Journal) c.args.self.now _ c.prepared.new.provider c.in_ok-pending.pending c.args.request (world_fault c.in_err-answer.field-0.0)
    refl refl sent reads.honest writes.honest reads.was reads.same c.in_ok-pending.ensures.ok reads.stop writes.stop writes.was writes.same (g.met.R.Registry.settled c.commit.new.self)
    (provider_counts (r.faults c.args.self.now.provider) (r.faults c.prepared.new.provider) (r.faults c.commit.new.self) c.in_err-answer.field-0.0 reads.counted writes.counted))
