use Rattle.connection.proofs.HoldingLemmas.{FirstSoFar, IsNoSmaller}
use Rattle.connection.proofs.waiting.Waiting.largest.Given as goal

-- none of those before the place is larger
abbrev pub invariant-loop-place : goal.invariant-loop-place
invariant-loop-place g l = FirstSoFar IsNoSmaller l.self.connections.items l.place l.found
