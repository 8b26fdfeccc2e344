use Rattle.std.proofs.Common.{◌+◌, ◌-◌, ◌*◌, min}
use Rattle.http_text.proofs.ChunkReading.{HasChunks}
use Rattle.http_text.proofs.chunks.read_chunks.Given as goal

abbrev pub invariant-loop-alloc : goal.invariant-loop-alloc
invariant-loop-alloc g l =
    HasChunks l.fn.reader l.reader l.fn.message l.message l.decoder l.framing l.content l.most l.fn.turns l.turns

-- a byte is taken, or the next ones are taken one by one
abbrev pub decreases-loop-alloc : goal.decreases-loop-alloc
decreases-loop-alloc g l = (l.framing + l.content) * 2 + min (l.most - 1) 1
