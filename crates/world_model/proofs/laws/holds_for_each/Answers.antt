use Rattle.world_model.proofs.Several as laws
use Rattle.world_model.proofs.Sharing as sharing
use Rattle.world_model.proofs.laws.holds_for_each.Goals as goal

pub returns-clause-among : goal.returns-clause-among
returns-clause-among c = laws.each_is_among_others

pub returns-clause-headline : goal.returns-clause-headline
returns-clause-headline c = laws.headline_holds_for_each

pub returns-clause-safe : goal.returns-clause-safe
returns-clause-safe c = laws.always_safe_for_each

pub returns-clause-onward : goal.returns-clause-onward
returns-clause-onward c = laws.always_onward_for_each

pub returns-clause-untroubled : goal.returns-clause-untroubled
returns-clause-untroubled c = sharing.never_refused_for_each

pub returns-clause-settles : goal.returns-clause-settles
returns-clause-settles c = sharing.settles_for_each
