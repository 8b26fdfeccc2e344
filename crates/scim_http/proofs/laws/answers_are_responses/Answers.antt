use Rattle.scim_http.proofs.ResponseLaws as lemmas
use Rattle.scim_http.proofs.laws.answers_are_responses.Goals as goal

pub returns : goal.returns
returns c = lemmas.answers_are_responses
