use Rattle.connector_core.proofs.Acceptance.{answer_of, case_of}
use Rattle.connector_core.proofs.accepting.accept_is_by_history.Goals as goal

pub returns : goal.returns
returns c history row answer = (answer_of history row answer, case_of history row answer)
