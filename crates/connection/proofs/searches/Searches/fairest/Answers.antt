use Rattle.std.proofs.Common.{arith}
use Rattle.connection.proofs.SearchLemmas.{next_is_first, next_is_that, next_is_this}
use Rattle.connection.proofs.searches.Searches.fairest.Goals as goal
use Rattle.connection.proofs.searches.Searches.fairest.Goals.{then-count-fewest, else-count-fewest}

pub loop-place-init : goal.loop-place-init
loop-place-init g c =
    next_is_first c.args.self.now.waiting.items c.args.self.now.served.items c.count_at-fewest.result
    (let some = c.requires in grind arith) c.count_at-fewest.ensures

pub loop-place-preserved : goal.loop-place-preserved
loop-place-preserved g c = elim c.if-count-fewest.branch [
  | then-count-fewest w ↦
      rw (w.found-is, w.fewest-is) (next_is_this c.args.self.now.waiting.items c.args.self.now.served.items
      c.loop-place.place c.loop-place.found c.loop-place.fewest c.loop-place.invariant
      c.count_at-count.result c.count_at-count.ensures (grind arith) (omega arith))
  | else-count-fewest w ↦
      rw (w.found-is, w.fewest-is) (next_is_that c.args.self.now.waiting.items c.args.self.now.served.items
      c.loop-place.place c.loop-place.found c.loop-place.fewest c.loop-place.invariant
      c.count_at-count.result c.count_at-count.ensures (omega arith))
]
