use Rattle.scim_key.proofs.BaseLemmas.{are_spelled}
use Rattle.scim_key.proofs.bases.bases_are_spelled.Goals as goal

pub returns : goal.returns
returns c = are_spelled
