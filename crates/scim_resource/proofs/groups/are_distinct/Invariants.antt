use Rattle.std.proofs.Common.{◌≡◌, drop}
use Rattle.scim_resource.specs.Groups.{are_distinct}
use Rattle.scim_resource.proofs.groups.are_distinct.Given as goal

abbrev pub invariant-loop-i : goal.invariant-loop-i
invariant-loop-i l = are_distinct (drop l.i l.values) ≡ are_distinct l.values
