use Rattle.commands.proofs.RunLemmas.{looped}
use Rattle.commands.proofs.looping.carry.Goals as goal

pub returns : goal.returns
returns g c = looped _ _ _ _ _ _ _ _ _ _ _ _ _ _ _ c.carry_job.result c.in_ok-job.ensures c.carry_job.ensures
