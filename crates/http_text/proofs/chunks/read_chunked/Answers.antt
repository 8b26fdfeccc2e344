use Rattle.http_text.proofs.ChunkReading.{body_over, cut_over}
use Rattle.http_text.proofs.chunks.read_chunked.Goals as goal

pub returns-clause-body : goal.returns-clause-body
returns-clause-body g c = body_over _ _ _ _ _ _ c.read_trailers.result c.in_ok-room.ensures.chunks c.read_trailers.ensures.trailers

pub returns-clause-cut : goal.returns-clause-cut
returns-clause-cut g c = cut_over _ _ _ _ _ _ c.read_trailers.result c.in_ok-room.ensures.chunks c.read_trailers.ensures.cut
