use Rattle.commands.proofs.RunLemmas.{pushed}
use Rattle.commands.proofs.pushing.push_named.Goals as goal

pub returns : goal.returns
returns g c = pushed _ _ _ _ _ c.args.manner _ c.in_ok-job.job c.push_over.result c.in_ok-job.ensures c.push_over.ensures
