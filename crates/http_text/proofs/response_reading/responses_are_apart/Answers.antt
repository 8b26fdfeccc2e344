use Rattle.http_text.proofs.InterimLemmas.{responses_apart}
use Rattle.http_text.proofs.response_reading.responses_are_apart.Goals as goal

pub returns : goal.returns
returns c = responses_apart
