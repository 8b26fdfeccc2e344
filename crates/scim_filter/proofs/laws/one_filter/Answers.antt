use Rattle.scim_filter.proofs.Progress.{one_reading}
use Rattle.scim_filter.proofs.laws.one_filter.Goals as goal

pub returns : goal.returns
returns c = one_reading
