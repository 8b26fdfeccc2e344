use Rattle.connector_core.proofs.Rising.{goes_on}
use Rattle.connector_core.proofs.accepting.new_rows_go_on.Goals as goal

pub returns : goal.returns
returns c = goes_on
