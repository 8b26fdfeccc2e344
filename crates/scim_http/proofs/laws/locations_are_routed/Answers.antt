use Rattle.scim_http.proofs.LocationLaws.{locations_are_routed}
use Rattle.scim_http.proofs.laws.locations_are_routed.Goals as goal

pub returns : goal.returns
returns c = locations_are_routed
