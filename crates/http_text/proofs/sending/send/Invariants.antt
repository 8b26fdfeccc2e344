use Rattle.http_text.proofs.SendLemmas.{HasSent}
use Rattle.http_text.proofs.sending.send.Given as goal

-- the bytes before the rest are written, with nothing failed and nothing flushed
abbrev pub invariant-loop : goal.invariant-loop
invariant-loop g l = HasSent l.fn.writer l.writer l.bytes l.rest l.counter
