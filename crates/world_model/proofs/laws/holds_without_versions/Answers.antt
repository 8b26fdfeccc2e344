use Rattle.world_model.proofs.Unversioned as unversioned
use Rattle.world_model.proofs.laws.holds_without_versions.Goals as goal

pub returns-clause-headline : goal.returns-clause-headline
returns-clause-headline c = unversioned.headline_holds

pub returns-clause-safe : goal.returns-clause-safe
returns-clause-safe c = unversioned.always_safe

pub returns-clause-onward : goal.returns-clause-onward
returns-clause-onward c = unversioned.always_onward

pub returns-clause-judges : goal.returns-clause-judges
returns-clause-judges c = unversioned.judges_by_source

pub returns-clause-among : goal.returns-clause-among
returns-clause-among c = unversioned.headline_holds_among

pub returns-clause-onward_among : goal.returns-clause-onward_among
returns-clause-onward_among c = unversioned.always_onward_among
