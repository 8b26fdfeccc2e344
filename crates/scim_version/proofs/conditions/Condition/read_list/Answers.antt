use Rattle.scim_version.proofs.Spelling.{found_by, only_by}
use Rattle.scim_version.proofs.conditions.Condition.read_list.Goals as goal

pub returns-clause-found : goal.returns-clause-found
returns-clause-found c = found_by _ _ c.condition_in.ensures

pub returns-clause-only : goal.returns-clause-only
returns-clause-only c = only_by _ _ c.condition_in.ensures
