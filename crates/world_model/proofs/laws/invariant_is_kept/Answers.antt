use Rattle.world_model.proofs.Invariant as laws
use Rattle.world_model.proofs.laws.invariant_is_kept.Goals as goal

pub returns-clause-kept : goal.returns-clause-kept
returns-clause-kept c = laws.events_keep_it

pub returns-clause-always : goal.returns-clause-always
returns-clause-always c = laws.always_kept

pub returns-clause-facts_stay : goal.returns-clause-facts_stay
returns-clause-facts_stay c = laws.facts_stay
