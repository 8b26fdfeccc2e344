use Rattle.world_model.proofs.Headlines as headlines
use Rattle.world_model.proofs.Invariant as invariant
use Rattle.world_model.proofs.Judging as judging
use Rattle.world_model.proofs.Onwards as onwards
use Rattle.world_model.proofs.Others as others
use Rattle.world_model.proofs.Safety as safety
use Rattle.world_model.proofs.laws.holds_among_others.Goals as goal

pub returns-clause-headline : goal.returns-clause-headline
returns-clause-headline c = headlines.headline_holds_among

pub returns-clause-safe : goal.returns-clause-safe
returns-clause-safe c = safety.always_safe_among

pub returns-clause-onward : goal.returns-clause-onward
returns-clause-onward c = onwards.always_onward_among

pub returns-clause-judges : goal.returns-clause-judges
returns-clause-judges c = judging.judges_by_source_among

pub returns-clause-kept : goal.returns-clause-kept
returns-clause-kept c = invariant.acts_keep_it

pub returns-clause-without : goal.returns-clause-without
returns-clause-without c = others.without_others
