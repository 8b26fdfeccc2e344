use Rattle.comparing.proofs.SameLemmas.{agrees_with_itself, as_wanted_means}
use Rattle.comparing.proofs.laws.as_wanted_means.Goals as goal

pub returns-clause-means : goal.returns-clause-means
returns-clause-means c = as_wanted_means

pub returns-clause-itself : goal.returns-clause-itself
returns-clause-itself c = agrees_with_itself
