use Rattle.std.proofs.Common.{◌≤◌, vec_len}
use Rattle.connection.proofs.endings.Endings.go_on.Given as goal

-- none came to them, and no more were looked at than one call looks at
abbrev pub invariant-loop : goal.invariant-loop
invariant-loop g l = record {
  fewer : vec_len l.self.endings ≤ vec_len l.initial.self.endings;
  few : l.looks ≤ 4;
}
