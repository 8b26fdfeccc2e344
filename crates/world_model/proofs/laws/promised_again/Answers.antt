use Rattle.world_model.proofs.Healed as healed
use Rattle.world_model.proofs.Lasting as laws
use Rattle.world_model.proofs.InOrder as orders
use Rattle.world_model.proofs.laws.promised_again.Goals as goal

pub returns-clause-again : goal.returns-clause-again
returns-clause-again c = laws.promised_again

pub returns-clause-acts : goal.returns-clause-acts
returns-clause-acts c = healed.healing_is_acts

pub returns-clause-empty : goal.returns-clause-empty
returns-clause-empty c = orders.empty_is_start
