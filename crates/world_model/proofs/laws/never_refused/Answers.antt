use Rattle.world_model.proofs.Quiet as laws
use Rattle.world_model.proofs.laws.never_refused.Goals as goal

pub returns : goal.returns
returns c = laws.never_refused
