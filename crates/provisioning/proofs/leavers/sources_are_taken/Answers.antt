use Rattle.provisioning.proofs.LeaverLemmas.{sources_taken}
use Rattle.provisioning.proofs.leavers.sources_are_taken.Goals as goal

pub returns : goal.returns
returns g c = sources_taken g.J.Journal
