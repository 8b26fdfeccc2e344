use Rattle.provider_core.proofs.TableLaws as laws
use Rattle.provider_core.proofs.laws.entries_go_on.Goals as goal

pub returns-clause-at : goal.returns-clause-at
returns-clause-at c = laws.go_on_at

pub returns-clause-staying : goal.returns-clause-staying
returns-clause-staying c = laws.go_on_staying

pub returns-clause-further : goal.returns-clause-further
returns-clause-further c = laws.go_on_further
