use Rattle.scim_resource.proofs.LookedLemmas.{repeated_first}
use Rattle.scim_resource.proofs.laws.repeated_names_come_first.Goals as goal

pub returns : goal.returns
returns c = repeated_first
