use Rattle.std.proofs.Common.{◌≡◌, take}
use Rattle.checking.specs.Rechecks.{groups_in}
use Rattle.checking.proofs.rechecking.groups_in.Given as goal

-- the groups so far
abbrev pub invariant-loop-name : goal.invariant-loop-name
invariant-loop-name l = l.groups.items ≡ groups_in (take l.name-index l.names)
