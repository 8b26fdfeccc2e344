use Rattle.std.proofs.Common.{◌++◌}
use Rattle.world_sim.specs.Strangers.{HasNames}
use Rattle.world_sim.proofs.StrangerLemmas.{AreMetSoFar}
use Rattle.world_sim.proofs.strangers.all_met.Given as goal

-- the records of the acts before this one, and what is known by them
abbrev pub invariant-loop-act : goal.invariant-loop-act
invariant-loop-act l = AreMetSoFar l.fn.ours l.fn.acts l.names.items l.act-index
    × HasNames l.known (l.fn.ours ++ l.names.items)
