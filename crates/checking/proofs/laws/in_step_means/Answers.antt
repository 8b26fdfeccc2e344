use Rattle.checking.proofs.StepLemmas.{in_step_means}
use Rattle.checking.proofs.laws.in_step_means.Goals as goal

pub returns : goal.returns
returns c = in_step_means
