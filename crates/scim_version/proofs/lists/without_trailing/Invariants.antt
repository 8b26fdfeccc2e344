use Rattle.std.proofs.Common.{◌≡◌, length}
use Rattle.scim_version.specs.Lists.{without_trailing_blanks}
use Rattle.scim_version.proofs.lists.without_trailing.Given as goal

abbrev pub invariant-loop-rest : goal.invariant-loop-rest
invariant-loop-rest l = without_trailing_blanks l.rest ≡ without_trailing_blanks l.text

abbrev pub decreases-loop-rest : goal.decreases-loop-rest
decreases-loop-rest l = length l.rest
