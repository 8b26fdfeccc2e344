use Rattle.std.proofs.Common.{rules}
use Rattle.provider_core.proofs.Gathering.{goes-one}
use Rattle.provider_core.proofs.searching.Gathered.look_through.Goals as goal

pub loop-row-preserved : goal.loop-row-preserved
loop-row-preserved g c = (
  goes-one c.args.kind c.args.filter.now c.loop-row.row-index c.row-item.result c.args.rows.now c.args.self.now c.loop-row.self
      c.look_at.new.self c.loop-row-test.true c.row-item.is c.loop-row.invariant.0 c.in_ok-look_at.ensures,
  g.met.M.Meanwhile.keeps_on _ _ _ c.loop-row.invariant.1 c.after_rows-goes_on.ensures.keeps,
  search rules,
)
