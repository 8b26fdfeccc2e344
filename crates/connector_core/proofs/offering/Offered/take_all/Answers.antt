use Rattle.std.proofs.Common.{◌∙◌}
use Rattle.connector_core.proofs.Offered.{offered-more}
use Rattle.connector_core.proofs.offering.Offered.take_all.Goals as goal

pub loop-row-preserved : goal.loop-row-preserved
loop-row-preserved c = (
  offered-more c.args.book.now c.loop-row.book c.take.new.book c.loop-row.yielded c.in-Some.row c.loop-row.self c.take.new.self c.loop-row.invariant.0
      c.in_ok-take.ensures.said c.in_ok-take.ensures.fresh c.in_ok-take.ensures.taken,
  c.in_ok-take.ensures.back ∙ c.loop-row.invariant.1,
)
