use Rattle.world_sim.proofs.Fitting as lemmas
use Rattle.world_sim.proofs.laws.messages_are_read.Goals as goal

pub returns-clause-limits : goal.returns-clause-limits
returns-clause-limits c = lemmas.messages_keep_limits

pub returns-clause-read : goal.returns-clause-read
returns-clause-read c = lemmas.messages_are_read

pub returns-clause-from : goal.returns-clause-from
returns-clause-from c = lemmas.messages_are_read_from
