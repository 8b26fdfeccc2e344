use Rattle.connector_core.proofs.Lessons.{learns_by_notes}
use Rattle.connector_core.proofs.laws.learns_by_notes.Goals as goal

pub returns : goal.returns
returns c = learns_by_notes
