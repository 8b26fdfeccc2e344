use Rattle.std.proofs.Common.{take}
use Rattle.world_sim.specs.Strangers.{HasNames}
use Rattle.world_sim.proofs.strangers.set_of.Given as goal

-- the names before this one
abbrev pub invariant-loop-name : goal.invariant-loop-name
invariant-loop-name l = HasNames l.set (take l.name-index l.names)
