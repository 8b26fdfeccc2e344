use Rattle.world_model.proofs.Starting as laws
use Rattle.world_model.proofs.laws.headline_from_any_start.Goals as goal

pub returns-clause-any : goal.returns-clause-any
returns-clause-any c = laws.headline_from_any_start

pub returns-clause-empty : goal.returns-clause-empty
returns-clause-empty c = laws.headline_through_resets

pub returns-clause-alone : goal.returns-clause-alone
returns-clause-alone c = laws.headline_alone

pub returns-clause-again : goal.returns-clause-again
returns-clause-again c = laws.promised_through_resets

pub returns-clause-heals : goal.returns-clause-heals
returns-clause-heals c = laws.heals_after_resets

pub returns-clause-without : goal.returns-clause-without
returns-clause-without c = laws.without_resets
