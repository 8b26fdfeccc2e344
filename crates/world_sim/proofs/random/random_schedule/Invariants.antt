use Rattle.std.proofs.Common.{◌≡◌, length}
use Rattle.world_sim.proofs.RandomLemmas.{AreDrawnSoFar}
use Rattle.world_sim.proofs.random.random_schedule.Given as goal

abbrev pub invariant-loop : goal.invariant-loop
invariant-loop l = (length l.events.items ≡ l.counter) × AreDrawnSoFar l.generator l.revisions l.seed l.count l.counter l.events.items
