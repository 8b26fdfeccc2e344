use Rattle.connector_core.proofs.LawProofs.{no_store_faults}
use Rattle.connector_core.proofs.laws.memory_never_faults.Goals as goal

pub returns : goal.returns
returns c = no_store_faults
