use Rattle.world_model.proofs.Onwards as laws
use Rattle.world_model.proofs.laws.always_onward.Goals as goal

pub returns : goal.returns
returns c = laws.always_onward
