use Rattle.http_text.proofs.BodyLemmas.{HasRead}
use Rattle.http_text.proofs.reading.read_body.Given as goal

-- what has come is at the body's end
abbrev pub invariant-loop-left : goal.invariant-loop-left
invariant-loop-left g l = HasRead l.fn.reader l.reader l.fn.message l.message l.length l.left l.fn.turns l.turns

abbrev pub decreases-loop-left : goal.decreases-loop-left
decreases-loop-left g l = l.left
