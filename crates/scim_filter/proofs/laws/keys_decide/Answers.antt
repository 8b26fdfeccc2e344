use Rattle.scim_filter.proofs.Keys.{keys_decide}
use Rattle.scim_filter.proofs.laws.keys_decide.Goals as goal

pub returns : goal.returns
returns c = keys_decide
