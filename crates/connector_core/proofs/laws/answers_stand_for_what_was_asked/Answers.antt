use Rattle.connector_core.proofs.Standing.{stand_for_what_was_asked}
use Rattle.connector_core.proofs.laws.answers_stand_for_what_was_asked.Goals as goal

pub returns : goal.returns
returns c = stand_for_what_was_asked
