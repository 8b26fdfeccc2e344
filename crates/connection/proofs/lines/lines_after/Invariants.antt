use Rattle.std.proofs.Common.{◌≡◌, length}
use Rattle.connection.specs.Lines as spec
use Rattle.connection.proofs.lines.lines_after.Given as goal

-- what is left is followed as all are
abbrev pub invariant-loop-byte : goal.invariant-loop-byte
invariant-loop-byte l = spec.lines_after l.reached l.rest ≡ spec.lines_after l.fn.lines l.bytes

abbrev pub decreases-loop-byte : goal.decreases-loop-byte
decreases-loop-byte l = length l.rest
