use Rattle.std.proofs.Common.{◌≤◌, vec_len}
use Rattle.connection.proofs.endings.Endings.make_room.Given as goal

-- none came to them
abbrev pub invariant-loop : goal.invariant-loop
invariant-loop g l = vec_len l.self.endings ≤ vec_len l.initial.self.endings
