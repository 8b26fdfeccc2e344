use Rattle.world_sim.proofs.Answering as lemmas
use Rattle.world_sim.proofs.laws.answers_fit.Goals as goal

pub returns-clause-fit : goal.returns-clause-fit
returns-clause-fit c = lemmas.answers_fit

pub returns-clause-read : goal.returns-clause-read
returns-clause-read c = lemmas.answers_are_read_back
