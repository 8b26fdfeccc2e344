use Rattle.std.proofs.Common.{◌≡◌, rules, subst}
use Rattle.std.proofs.lemmas.Result.{err_from_is_err_and}
use Rattle.world_sim.specs.Acts.{Answers, write_of}
use Rattle.world_sim.proofs.Amid.{does_writes, writes_unread}
use Rattle.world_sim.proofs.worlds.World.write_theirs.Goals as goal

pub returns-in_err-copy-clause-fails : goal.returns-in_err-copy-clause-fails
returns-in_err-copy-clause-fails g c =
    let p = err_from_is_err_and c.from_residual.result c.from_residual.ensures.1 in
    rw (p.1, p.2) (writes_unread g.R.Registry g.J.Journal c.args.self.now c.args.content.now)

pub returns-in-Ok-clause-done : goal.returns-in-Ok-clause-done
returns-in-Ok-clause-done g c =
    let same : c.in_ok-copy.copy ≡ c.args.content.now = search rules in
    let done = subst (λ content. Answers g.R.Registry g.J.Journal c.args.self.now c.write.new.self (write_of (g.R.Registry.rows c.args.self.now.provider) content) c.in-Ok.status) same c.in-Ok.ensures.done in
    does_writes g.R.Registry g.J.Journal c.args.self.now c.write.new.self c.args.content.now c.in-Ok.status c.write.ensures.base c.write.ensures.apart done
