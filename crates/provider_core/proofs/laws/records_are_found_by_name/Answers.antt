use Rattle.provider_core.proofs.TableLaws as laws
use Rattle.provider_core.proofs.laws.records_are_found_by_name.Goals as goal

pub returns-clause-rows : goal.returns-clause-rows
returns-clause-rows c = laws.found_by_name

pub returns-clause-entries : goal.returns-clause-entries
returns-clause-entries c = laws.entries_are_found
