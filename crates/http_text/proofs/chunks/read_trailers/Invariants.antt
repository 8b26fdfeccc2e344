use Rattle.http_text.proofs.TrailerLemmas.{HasTrailers}
use Rattle.http_text.proofs.chunks.read_trailers.Given as goal

-- what was taken leads to the place
abbrev pub invariant-loop-alloc : goal.invariant-loop-alloc
invariant-loop-alloc g l = HasTrailers l.fn.reader l.reader l.place l.fn.room l.room l.fn.turns l.turns

abbrev pub decreases-loop-alloc : goal.decreases-loop-alloc
decreases-loop-alloc g l = l.room
