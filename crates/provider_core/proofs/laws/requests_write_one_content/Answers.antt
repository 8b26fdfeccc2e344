use Rattle.provider_core.proofs.TableLaws as laws
use Rattle.provider_core.proofs.laws.requests_write_one_content.Goals as goal

pub returns : goal.returns
returns c = laws.steps_write
