use Rattle.world_model.proofs.Judging as laws
use Rattle.world_model.proofs.laws.judges_by_source.Goals as goal

pub returns : goal.returns
returns c = laws.judges_by_source
