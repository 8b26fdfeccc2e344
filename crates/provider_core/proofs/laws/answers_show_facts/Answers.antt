use Rattle.provider_core.proofs.TableLaws as laws
use Rattle.provider_core.proofs.laws.answers_show_facts.Goals as goal

pub returns : goal.returns
returns c = laws.answers_show_facts
