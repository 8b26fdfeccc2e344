use Rattle.scim_resource.proofs.FirstLemmas.{members_kept_once}
use Rattle.scim_resource.proofs.laws.repeated_members_are_kept_once.Goals as goal

pub returns : goal.returns
returns c = members_kept_once
