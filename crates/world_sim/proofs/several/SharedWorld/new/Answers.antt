use Rattle.std.proofs.lemmas.Result.{err_from_is_err_and}
use Rattle.world_sim.proofs.SharedRuns.{starts_one, unstarted_here}
use Rattle.world_sim.proofs.several.SharedWorld.new.Goals as goal

pub returns-clause-starts : goal.returns-clause-starts
returns-clause-starts g c =
    starts_one g.R.Registry g.J.Journal _ c.args.registry c.args.journal c.args.base c.new.ensures.items c.in_ok-first.ensures.starts.base_is c.in_ok-first.ensures.starts.starts

pub returns-in_err-first-clause-fault : goal.returns-in_err-first-clause-fault
returns-in_err-first-clause-fault g c =
    let p = err_from_is_err_and c.from_residual.result c.from_residual.ensures.1 in
    let (left, counts) = c.in_err-first.ensures.fault in
    rw (p.1, p.2) (unstarted_here g.J.Journal c.args.journal left _ counts)
