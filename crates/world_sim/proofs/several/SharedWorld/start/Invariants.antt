use Rattle.std.proofs.Common.{◌∷◌, length, take}
use Rattle.std.specs.Vec.Iter.{into_iter_items}
use Rattle.world_sim.specs.Several.{StartsSeveral}
use Rattle.world_sim.proofs.several.SharedWorld.start.Given as goal

-- a connector was started over each journal so far
abbrev pub invariant-loop-journal : goal.invariant-loop-journal
invariant-loop-journal g l =
    StartsSeveral g.R.Registry g.J.Journal l.fn.registry (l.fn.first ∷ take (length l.yielded) (into_iter_items l.initial.journal-iterator)) l.fn.base l.world
