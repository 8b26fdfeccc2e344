use Rattle.connection.proofs.HoldingLemmas.{FirstSoFar, IsNoQuicker}
use Rattle.connection.proofs.endings.Endings.slowest.Given as goal

-- none of those before the place is slower
abbrev pub invariant-loop-place : goal.invariant-loop-place
invariant-loop-place g l = FirstSoFar (IsNoQuicker l.now) l.self.endings.items l.place l.found
