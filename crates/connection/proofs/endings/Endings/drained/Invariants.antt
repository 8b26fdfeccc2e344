use Rattle.std.proofs.Common.{◌<◌, vec_len, IfSome}
use Rattle.connection.proofs.endings.Endings.drained.Given as goal

-- what was found is a place
abbrev pub invariant-loop-place : goal.invariant-loop-place
invariant-loop-place g l = IfSome l.found (λ place. place < vec_len l.self.endings)
