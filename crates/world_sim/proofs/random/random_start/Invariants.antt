use Rattle.world_sim.proofs.RandomLemmas.{AreHeldSoFar}
use Rattle.world_sim.proofs.random.random_start.Given as goal

abbrev pub invariant-loop : goal.invariant-loop
invariant-loop l = AreHeldSoFar l.words l.seed l.held l.counter l.acts.items
