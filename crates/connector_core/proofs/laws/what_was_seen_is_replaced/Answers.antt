use Rattle.connector_core.proofs.Replacing.{what_was_seen_is_replaced}
use Rattle.connector_core.proofs.laws.what_was_seen_is_replaced.Goals as goal

pub returns : goal.returns
returns c = what_was_seen_is_replaced
