use Rattle.world_sim.proofs.Amid as amid
use Rattle.world_sim.proofs.Reaching as reaching
use Rattle.world_sim.proofs.laws.without_others.Goals as goal

pub returns-clause-worlds : goal.returns-clause-worlds
returns-clause-worlds g c = reaching.is_alone g.R.Registry g.J.Journal

pub returns-clause-runs : goal.returns-clause-runs
returns-clause-runs g c = amid.runs_alone g.R.Registry g.J.Journal
