use Rattle.mapping.proofs.ReadyLemmas.{means}
use Rattle.mapping.proofs.readiness.ready_means.Goals as goal

pub returns : goal.returns
returns c = means
