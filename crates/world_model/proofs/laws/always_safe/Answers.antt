use Rattle.world_model.proofs.Safety as laws
use Rattle.world_model.proofs.laws.always_safe.Goals as goal

pub returns : goal.returns
returns c = laws.always_safe
