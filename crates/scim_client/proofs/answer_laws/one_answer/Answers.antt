use Rattle.scim_client.proofs.AnswerLemmas as lemmas
use Rattle.scim_client.proofs.answer_laws.one_answer.Goals as goal

pub returns : goal.returns
returns c = lemmas.one_answer
