use Rattle.world_model.proofs.Unshown as laws
use Rattle.world_model.proofs.laws.settles_without_revisions.Goals as goal

pub returns : goal.returns
returns c = laws.settles_by_answers
