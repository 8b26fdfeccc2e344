use Rattle.std.proofs.Common.{Ok, Err}
use Rattle.world_sim.proofs.Readings.{answered_only}
use Rattle.world_sim.proofs.reading.read_answered.Goals as goal

pub returns-in-Ok-clause-only : goal.returns-in-Ok-clause-only
returns-in-Ok-clause-only c = λ answer so. answered_only (Ok c.in-Ok.answer) answer (c.in-Ok.ensures.only answer so)

pub returns-in-Err-clause-only : goal.returns-in-Err-clause-only
returns-in-Err-clause-only c = λ answer so. rw c.reading_fault.ensures (answered_only (Err c.in-Err.fault) answer (c.in-Err.ensures.only answer so))
