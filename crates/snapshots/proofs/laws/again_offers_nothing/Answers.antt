use Rattle.snapshots.proofs.Taken.{again_offers_nothing}
use Rattle.snapshots.proofs.laws.again_offers_nothing.Goals as goal

pub returns : goal.returns
returns c = again_offers_nothing
