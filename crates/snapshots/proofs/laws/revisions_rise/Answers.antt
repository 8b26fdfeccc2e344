use Rattle.snapshots.proofs.Offers.{revisions_rise}
use Rattle.snapshots.proofs.Verdicts.{no_setbacks}
use Rattle.snapshots.proofs.laws.revisions_rise.Goals as goal

pub returns : goal.returns
returns c = record { rise = revisions_rise; verdicts = no_setbacks }
