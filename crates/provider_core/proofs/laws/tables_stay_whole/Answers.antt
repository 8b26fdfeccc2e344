use Rattle.provider_core.proofs.TableLaws as laws
use Rattle.provider_core.proofs.laws.tables_stay_whole.Goals as goal

pub returns : goal.returns
returns c = laws.tables_stay_whole
