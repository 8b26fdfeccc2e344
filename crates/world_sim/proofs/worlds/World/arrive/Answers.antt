use Rattle.std.proofs.Common.{◌≡◌, ap, ◌∙◌, rules}
use Rattle.std.proofs.lemmas.Result.{err_from_is_err_and}
use Rattle.scim_message.specs.Messages.{answer_status}
use Rattle.world_sim.specs.Events.{world_fault}
use Rattle.world_sim.specs.GoingOn.{unknown_entries}
use Rattle.world_sim.proofs.Acts.{answers_theirs, theirs_to_write}
use Rattle.world_sim.proofs.Restarts.{provider_counts}
use Rattle.world_sim.proofs.worlds.World.arrive.Goals as goal

pub returns-clause-done : goal.returns-clause-done
returns-clause-done g c =
    let reads = c.in_ok-pending.ensures.reads in
    let writes = c.in_ok-answer.ensures.writes in
    let answer : c.in_ok-answer.answer ≡ c.in_ok-pending.pending.answer = search rules in
    answers_theirs g.R.Registry g.J.Journal c.args.self.now c.commit.new.self c.prepared.new.provider c.in_ok-pending.pending c.args.request.now c.status.result
    reads.honest writes.honest reads.was reads.opened c.in_ok-answer.ensures.open reads.same
    c.in_ok-pending.ensures.ok
    writes.done (g.met.R.Registry.settled c.commit.new.self)
    (c.status.ensures.code ∙ ap answer_status answer)

pub returns-clause-goes_on : goal.returns-clause-goes_on
returns-clause-goes_on g c =
    let reads = c.in_ok-pending.ensures.reads in
    let writes = c.in_ok-answer.ensures.writes in
    let answer : c.in_ok-answer.answer ≡ c.in_ok-pending.pending.answer = search rules in
    answers_theirs g.R.Registry (unknown_entries g.J.Journal) c.args.self.now c.commit.new.self c.prepared.new.provider c.in_ok-pending.pending c.args.request.now c.status.result
    reads.honest writes.honest reads.was reads.opened c.in_ok-answer.ensures.open reads.same
    c.in_ok-pending.ensures.ok
    writes.done (g.met.R.Registry.settled c.commit.new.self)
    (c.status.ensures.code ∙ ap answer_status answer)

pub returns-in_err-answer-clause-fails : goal.returns-in_err-answer-clause-fails
returns-in_err-answer-clause-fails g c =
    let r = g.R.Registry in
    let reads = c.in_ok-pending.ensures.reads in
    let writes = c.in_err-answer.ensures.writes in
    let p = err_from_is_err_and c.from_residual-in_err-answer.result c.from_residual-in_err-answer.ensures.1 in
    rw (p.1, p.2) (theirs_to_write r g.J.Journal c.args.self.now c.commit.new.self c.prepared.new.provider c.in_ok-pending.pending c.args.request.now (world_fault c.in_err-answer.field-0.0)
    reads.honest writes.honest reads.was reads.same c.in_ok-pending.ensures.ok reads.stop writes.stop writes.was writes.same (g.met.R.Registry.settled c.commit.new.self)
    (provider_counts (r.faults c.args.self.now.provider) (r.faults c.prepared.new.provider) (r.faults c.commit.new.self) c.in_err-answer.field-0.0 reads.counted writes.counted))

pub returns-in_err-answer-clause-fails_on : goal.returns-in_err-answer-clause-fails_on
returns-in_err-answer-clause-fails_on g c =
    let r = g.R.Registry in
    let reads = c.in_ok-pending.ensures.reads in
    let writes = c.in_err-answer.ensures.writes in
    let p = err_from_is_err_and c.from_residual-in_err-answer.result c.from_residual-in_err-answer.ensures.1 in
    rw (p.1, p.2) (theirs_to_write r (unknown_entries g.J.Journal) c.args.self.now c.commit.new.self c.prepared.new.provider c.in_ok-pending.pending c.args.request.now (world_fault c.in_err-answer.field-0.0)
    reads.honest writes.honest reads.was reads.same c.in_ok-pending.ensures.ok reads.stop writes.stop writes.was writes.same (g.met.R.Registry.settled c.commit.new.self)
    (provider_counts (r.faults c.args.self.now.provider) (r.faults c.prepared.new.provider) (r.faults c.commit.new.self) c.in_err-answer.field-0.0 reads.counted writes.counted))
