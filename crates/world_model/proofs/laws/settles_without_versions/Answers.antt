use Rattle.world_model.proofs.UnversionedSettling as settling
use Rattle.world_model.proofs.laws.settles_without_versions.Goals as goal

pub returns : goal.returns
returns c = settling.settles_without_versions
