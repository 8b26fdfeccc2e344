use Rattle.snapshots.proofs.Offers.{only_the_file}
use Rattle.snapshots.proofs.laws.nobody_is_withdrawn_if_unsure.Goals as goal

pub returns : goal.returns
returns c = only_the_file
