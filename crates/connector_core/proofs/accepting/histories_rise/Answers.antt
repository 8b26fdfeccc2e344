use Rattle.connector_core.proofs.Rising.{histories}
use Rattle.connector_core.proofs.accepting.histories_rise.Goals as goal

pub returns : goal.returns
returns c = histories
