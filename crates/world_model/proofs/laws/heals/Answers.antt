use Rattle.world_model.proofs.Healed as laws
use Rattle.world_model.proofs.Rechecked as rechecked
use Rattle.world_model.proofs.laws.heals.Goals as goal

pub returns-clause-all : goal.returns-clause-all
returns-clause-all c = laws.heals

pub returns-clause-among : goal.returns-clause-among
returns-clause-among c = laws.heals_among

pub returns-clause-runs : goal.returns-clause-runs
returns-clause-runs c = rechecked.heals_in_runs

pub returns-clause-anything : goal.returns-clause-anything
returns-clause-anything c = laws.heals_after_anything

pub returns-clause-untouched : goal.returns-clause-untouched
returns-clause-untouched c = laws.touches_only_what_differs

pub returns-clause-old : goal.returns-clause-old
returns-clause-old c = laws.old_answers_confirm
