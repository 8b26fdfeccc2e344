use Rattle.std.proofs.Common.{List}
use Rattle.scim_key.specs.declared.records.RecordName.{RecordName}
use Rattle.world_sim.specs.Strangers.{HasNames}
use Rattle.world_sim.proofs.StrangerLemmas.{AreOfferedSoFar}
use Rattle.world_sim.proofs.strangers.offered.Given as goal

-- the records of the acts before this one
abbrev pub invariant-loop-act : goal.invariant-loop-act
invariant-loop-act l = (names : List RecordName) × AreOfferedSoFar l.fn.acts names l.act-index × HasNames l.names names
