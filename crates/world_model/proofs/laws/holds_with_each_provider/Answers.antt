use Rattle.world_model.proofs.Headlines as headlines
use Rattle.world_model.proofs.Invariant as invariant
use Rattle.world_model.proofs.Judging as judging
use Rattle.world_model.proofs.Onwards as onwards
use Rattle.world_model.proofs.Safety as safety
use Rattle.world_model.proofs.laws.holds_with_each_provider.Goals as goal

pub returns-clause-headline : goal.returns-clause-headline
returns-clause-headline c = headlines.headline_holds_at

pub returns-clause-safe : goal.returns-clause-safe
returns-clause-safe c = safety.always_safe_at

pub returns-clause-onward : goal.returns-clause-onward
returns-clause-onward c = onwards.always_onward_at

pub returns-clause-judges : goal.returns-clause-judges
returns-clause-judges c = judging.judges_by_source_at

pub returns-clause-kept : goal.returns-clause-kept
returns-clause-kept c = invariant.event_inv_at

pub returns-clause-among : goal.returns-clause-among
returns-clause-among c = headlines.headline_holds_among_at

pub returns-clause-revisions : goal.returns-clause-revisions
returns-clause-revisions c = safety.with_revisions
