use Rattle.world_model.proofs.Headlines as laws
use Rattle.world_model.proofs.laws.headline_holds.Goals as goal

pub returns : goal.returns
returns c = laws.headline_holds
