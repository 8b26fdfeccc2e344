use Rattle.scim_client.proofs.AnswerLaws as lemmas
use Rattle.scim_client.proofs.answer_laws.answers_are_read.Goals as goal

pub returns : goal.returns
returns c = lemmas.answers_are_read
