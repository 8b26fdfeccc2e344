use Rattle.std.proofs.Common.{◌≡◌, length}
use Rattle.scim_client.specs.ServicePaths.{are_placed}
use Rattle.scim_client.proofs.service_paths.are_placed.Given as goal

abbrev pub invariant-loop-rest : goal.invariant-loop-rest
invariant-loop-rest l = are_placed l.rest ≡ are_placed l.path

abbrev pub decreases-loop-rest : goal.decreases-loop-rest
decreases-loop-rest l = length l.rest
