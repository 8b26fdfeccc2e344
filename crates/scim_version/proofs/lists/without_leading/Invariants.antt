use Rattle.std.proofs.Common.{◌≡◌, length}
use Rattle.scim_version.specs.Lists.{without_leading_blanks}
use Rattle.scim_version.proofs.lists.without_leading.Given as goal

abbrev pub invariant-loop-rest : goal.invariant-loop-rest
invariant-loop-rest l = without_leading_blanks l.rest ≡ without_leading_blanks l.text

abbrev pub decreases-loop-rest : goal.decreases-loop-rest
decreases-loop-rest l = length l.rest
