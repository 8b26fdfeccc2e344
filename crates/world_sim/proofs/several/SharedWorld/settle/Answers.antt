use Rattle.std.proofs.lemmas.Result.{err_from_is_err_and}
use Rattle.world_sim.proofs.SharedRuns.{one_settled_each, stops_each}
use Rattle.world_sim.proofs.several.SharedWorld.settle.Goals as goal

pub loop-place-preserved : goal.loop-place-preserved
loop-place-preserved g c =
    one_settled_each g.R.Registry g.J.Journal c.args.self.now c.loop-place.self c.settle_at.new.self c.loop-place.place c.loop-place.exchanges c.saturating_add-exchanges.result c.in_ok-count.count
    c.saturating_add-exchanges.ensures c.loop-place.invariant c.in_ok-count.ensures.settles

pub returns-in_err-count-clause-stops : goal.returns-in_err-count-clause-stops
returns-in_err-count-clause-stops g c =
    let p = err_from_is_err_and c.from_residual.result c.from_residual.ensures.1 in
    rw (p.1, p.2) (stops_each g.R.Registry g.J.Journal c.args.self.now c.loop-place.self c.settle_at.new.self c.loop-place.place c.loop-place.exchanges _ c.loop-place.invariant c.in_err-count.ensures.stops)
