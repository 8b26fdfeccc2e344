use Rattle.std.proofs.Common.{◌≡◌, length}
use Rattle.std.specs.List.{AllByRecursion}
use Rattle.world_sim.specs.Several.{IsBelow}
use Rattle.world_sim.proofs.RandomLemmas.{AreTurnsSoFar}
use Rattle.world_sim.proofs.turns.random_turns.Given as goal

abbrev pub invariant-loop : goal.invariant-loop
invariant-loop l = (length l.turns.items ≡ l.counter) × (length l.draws.revisions.items ≡ l.connectors) × AllByRecursion (IsBelow l.connectors) l.turns.items
    × AreTurnsSoFar l.draws.generator l.draws.revisions.items l.seed l.connectors l.count l.counter l.turns.items
