use Rattle.world_sim.proofs.RandomLemmas.{AreActsSoFar}
use Rattle.world_sim.proofs.random.random_from_any_start.Given as goal

abbrev pub invariant-loop : goal.invariant-loop
invariant-loop l = AreActsSoFar l.words l.revisions l.seed l.events l.counter l.acts.items
