use Rattle.std.proofs.Common.{◌∙◌}
use Rattle.std.proofs.lemmas.Result.{err_from_is_err_and}
use Rattle.http_text.proofs.KnownLemmas.{Consumes-kept}
use Rattle.http_text.proofs.reading.read_body.Goals as goal

pub returns-in_err-append-clause-cut : goal.returns-in_err-append-clause-cut
returns-in_err-append-clause-cut g c =
    let p = err_from_is_err_and c.from_residual-in_err-append.result c.from_residual-in_err-append.ensures.1 in
    let memory = p.2 ∙ c.in_err-append.ensures.memory in
    rw (p.1, memory) (_, Consumes-kept _ _ _ _ c.loop-left.invariant.taken c.in_ok-look_ahead.ensures.kept)
