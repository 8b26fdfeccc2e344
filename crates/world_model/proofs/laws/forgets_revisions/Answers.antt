use Rattle.world_model.proofs.Forgetting as laws
use Rattle.world_model.proofs.laws.forgets_revisions.Goals as goal

pub returns : goal.returns
returns c = laws.always_forgets
