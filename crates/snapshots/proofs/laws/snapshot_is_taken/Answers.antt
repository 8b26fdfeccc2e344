use Rattle.snapshots.proofs.Taken.{snapshot_is_taken}
use Rattle.snapshots.proofs.laws.snapshot_is_taken.Goals as goal

pub returns : goal.returns
returns c = snapshot_is_taken
