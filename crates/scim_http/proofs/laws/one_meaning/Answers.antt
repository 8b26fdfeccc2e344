use Rattle.scim_http.proofs.MeaningLaws.{one_meaning}
use Rattle.scim_http.proofs.laws.one_meaning.Goals as goal

pub returns : goal.returns
returns c = one_meaning
