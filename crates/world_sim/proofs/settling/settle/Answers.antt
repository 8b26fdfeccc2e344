use Rattle.std.proofs.Common.{rules}
use Rattle.std.proofs.lemmas.Result.{err_from_is_err_and}
use Rattle.world_sim.proofs.SettlingLemmas.{all_settled, none_settled, one_settled, stops_after, stops_unnamed}
use Rattle.world_sim.proofs.settling.settle.Goals as goal

pub returns-in_err-names-clause-stops : goal.returns-in_err-names-clause-stops
returns-in_err-names-clause-stops g c =
    let p = err_from_is_err_and c.from_residual.result c.from_residual.ensures.1 in
    rw (p.1, p.2) (stops_unnamed g.R.Registry g.J.Journal c.args.world.now c.in_err-names.field-0.0 c.in_err-names.ensures.cause)

pub loop-name-init : goal.loop-name-init
loop-name-init g c = none_settled g.R.Registry g.J.Journal c.args.world.now _

pub returns-in_err-made-clause-stops : goal.returns-in_err-made-clause-stops
returns-in_err-made-clause-stops g c =
    let p = err_from_is_err_and c.from_residual-in_err-made.result c.from_residual-in_err-made.ensures.1 in
    rw (p.1, p.2) (stops_after g.R.Registry g.J.Journal c.args.world.now c.loop-name.world c.settle_record.new.world c.loop-name.invariant.done
    c.in_err-made.field-0.0 c.in_err-made.ensures.stops)

pub loop-name-preserved : goal.loop-name-preserved
loop-name-preserved g c =
    one_settled g.R.Registry g.J.Journal c.args.world.now c.loop-name.world c.settle_record.new.world _ c.loop-name.name-index c.loop-name.exchanges c.name-item.result
    c.in_ok-made.made _ (search rules) c.name-item.is c.saturating_add-exchanges.ensures c.loop-name.invariant c.in_ok-made.ensures.settles

pub returns-clause-settles : goal.returns-clause-settles
returns-clause-settles g c =
    all_settled g.R.Registry g.J.Journal c.args.world.now c.loop-name.world _ c.loop-name.name-index c.loop-name.exchanges (search rules) (search rules) (search rules) c.loop-name.invariant
