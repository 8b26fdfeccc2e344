use Rattle.std.proofs.Common.{ap}
use Rattle.http_text.specs.Counts.{Reading}
use Rattle.connection.proofs.StreamLemmas.{ended_early}
use Rattle.connection.proofs.readiness.is_part.Goals as goal

pub returns-in-Err-EndedEarly : goal.returns-in-Err-EndedEarly
returns-in-Err-EndedEarly c = λ part. ended_early c.args.bytes.now c.new-input.result.remaining c.read_request.new.reader.remaining
    c.in-Err-EndedEarly.field-0 (ap (λ (input : Reading). input.remaining) c.new-input.ensures) c.in-Err-EndedEarly.field-0-is c.in-Err-EndedEarly.ensures.refused
