use Rattle.std.proofs.Common.{rules, ◌≡◌, ◌+◌, ◌-◌, ◌<◌, ◌≤◌, ◌⊎◌, ◌++◌, [], length, take, slice_range, arith, refl, ap, inl, inr}
use Rattle.std.proofs.lemmas.List.{append-nil}
use Rattle.std.proofs.lemmas.Result.{err_from_is_err_and}
use Rattle.http1.specs.ChunkedDecoder.{start, IsDone}
use Rattle.http1.proofs.RunLemmas.{run-nil}
use Rattle.http_text.specs.Chunks.{framing_limit}
use Rattle.http_text.proofs.ChunkLemmas.{part}
use Rattle.http_text.proofs.ChunkReading.{cut_none, too_long, some_read, all_taken, all_ran, all_length, content_length, refused_byte, appended}
use Rattle.http_text.proofs.KnownLemmas.{Consumes-none}
use Rattle.http_text.proofs.chunks.read_chunks.Goals as goal

pub loop-alloc-init : goal.loop-alloc-init
loop-alloc-init g c =
    let fresh = c.new-decoder.ensures in
    record {
      bytes = [];
      content = [];
      taken = Consumes-none c.args.reader.now.remaining;
      ran = rw fresh (run-nil (start framing_limit));
      good = rw fresh (λ e h. cc);
      message = rw (append-nil c.args.message.now.body) refl;
      size = refl;
      counted = refl;
      framed = omega arith;
      some = omega arith;
      counts = search rules;
      clean = refl;
    }

pub returns-in_err-look_ahead-clause-cut : goal.returns-in_err-look_ahead-clause-cut
returns-in_err-look_ahead-clause-cut g c =
    let p = err_from_is_err_and c.from_residual.result c.from_residual.ensures.1 in
    let going : IsDone c.loop-alloc.decoder → ⊥ = search rules in
    let i = c.loop-alloc.invariant in
    rw (p.1, p.2) (cut_none _ _ _ i.bytes _ i.taken (part i.bytes i.content c.loop-alloc.decoder i.ran i.good going) c.in_err-look_ahead.ensures.none)

pub returns-then-piece-framing-clause-cut : goal.returns-then-piece-framing-clause-cut
returns-then-piece-framing-clause-cut g c =
    let i = c.loop-alloc.invariant in
    let ahead = c.look_ahead.new.reader.ahead in
    let count = c.min-count.result in
    let input = take count c.ahead-in-loop-alloc.result.now in
    let is : input ≡ take count ahead = ap (take count) c.ahead-in-loop-alloc.ensures in
    let within : count ≤ length ahead = omega (arith, c.min.ensures, c.min-in-loop-alloc.ensures, c.min-count.ensures, ap length c.ahead.ensures) in
    let advances = c.in-Ok.ensures.ok in
    let kept = c.in_ok-look_ahead.ensures.kept in
    let few_framing : count ≤ c.loop-alloc.framing + 1 = omega (arith, c.min.ensures, c.min-in-loop-alloc.ensures, c.min-count.ensures, ap length c.ahead.ensures) in
    let few_content : count ≤ c.loop-alloc.content + 1 = omega (arith, c.min.ensures, c.min-in-loop-alloc.ensures, c.min-count.ensures, ap length c.ahead.ensures) in
    let beyond : (c.loop-alloc.framing < c.in-Ok.piece.start) ⊎ (c.loop-alloc.content < c.in-Ok.piece.end - c.in-Ok.piece.start) =
    elim c.then-piece-framing.either [ inl framing ↦ inl framing | inr content ↦ inr content.1 ] in (
      i.bytes ++ take c.in-Ok.piece.end ahead,
      all_taken _ _ _ i.bytes i.content ahead input count c.loop-alloc.decoder c.decode.new.self c.in-Ok.piece i.taken kept is within i.ran advances _ c.take.ensures.bytes,
      too_long _ _ _ i.bytes i.content ahead input count c.loop-alloc.decoder c.decode.new.self c.in-Ok.piece i.taken kept is within i.ran advances
          c.loop-alloc.framing c.loop-alloc.content few_framing few_content i.size i.counted beyond,
    )

pub loop-alloc-smaller-in-Ok : goal.loop-alloc-smaller-in-Ok
loop-alloc-smaller-in-Ok g c =
    let i = c.loop-alloc.invariant in
    let ahead = c.look_ahead.new.reader.ahead in
    let count = c.min-count.result in
    let input = take count c.ahead-in-loop-alloc.result.now in
    let is : input ≡ take count ahead = ap (take count) c.ahead-in-loop-alloc.ensures in
    let within : count ≤ length ahead = omega (arith, c.min.ensures, c.min-in-loop-alloc.ensures, c.min-count.ensures, ap length c.ahead.ensures) in
    let advances = c.in-Ok.ensures.ok in
    let kept = c.in_ok-look_ahead.ensures.kept in
    let going : IsDone c.loop-alloc.decoder → ⊥ = search rules in
    let some : 0 < count = omega (arith, c.min.ensures, c.min-in-loop-alloc.ensures, c.min-count.ensures, ap length c.ahead.ensures, i.some, c.in_ok-look_ahead.ensures.some) in
    let read = some_read _ _ _ i.bytes i.content ahead input count c.loop-alloc.decoder c.decode.new.self c.in-Ok.piece i.taken kept is within i.ran advances some going in
    omega (arith, read, advances.ordered, c.if-piece-framing.false, c.if-length-content.false)

pub loop-alloc-preserved-in-Ok : goal.loop-alloc-preserved-in-Ok
loop-alloc-preserved-in-Ok g c =
    let i = c.loop-alloc.invariant in
    let ahead = c.look_ahead.new.reader.ahead in
    let count = c.min-count.result in
    let input = take count c.ahead-in-loop-alloc.result.now in
    let is : input ≡ take count ahead = ap (take count) c.ahead-in-loop-alloc.ensures in
    let within : count ≤ length ahead = omega (arith, c.min.ensures, c.min-in-loop-alloc.ensures, c.min-count.ensures, ap length c.ahead.ensures) in
    let advances = c.in-Ok.ensures.ok in
    let kept = c.in_ok-look_ahead.ensures.kept in
    let more = all_length _ _ _ i.bytes i.content ahead input count c.loop-alloc.decoder c.decode.new.self c.in-Ok.piece i.taken kept is within i.ran advances in
    let longer = content_length _ _ _ i.bytes i.content ahead input count c.loop-alloc.decoder c.decode.new.self c.in-Ok.piece i.taken kept is within i.ran advances in
    let piece = slice_range input c.in-Ok.piece.start c.in-Ok.piece.end in
    record {
      bytes = i.bytes ++ take c.in-Ok.piece.end ahead;
      content = i.content ++ piece;
      taken = all_taken _ _ _ i.bytes i.content ahead input count c.loop-alloc.decoder c.decode.new.self c.in-Ok.piece i.taken kept is within i.ran advances _ c.take-in-Ok.ensures.bytes;
      ran = all_ran _ _ _ i.bytes i.content ahead input count c.loop-alloc.decoder c.decode.new.self c.in-Ok.piece i.taken kept is within i.ran advances;
      good = advances.not_failed;
      message = appended c.args.message.now c.loop-alloc.message c.append.new.self i.content piece _ i.message c.in_ok-append-in-Ok.ensures.ok c.of.ensures;
      size = omega (arith, longer, i.size, c.if-length-content.false);
      counted = omega (arith, more, longer, i.counted, c.if-piece-framing.false, advances.ordered);
      framed = omega (arith, i.framed);
      some = i.some;
      counts = search rules;
      clean = search rules;
    }

pub returns-in-Err-clause-cut : goal.returns-in-Err-clause-cut
returns-in-Err-clause-cut g c =
    let i = c.loop-alloc.invariant in
    let ahead = c.look_ahead.new.reader.ahead in
    let count = c.min-count.result in
    let input = take count c.ahead-in-loop-alloc.result.now in
    let is : input ≡ take count ahead = ap (take count) c.ahead-in-loop-alloc.ensures in
    let going : IsDone c.loop-alloc.decoder → ⊥ = search rules in
    refused_byte _ _ _ _ i.bytes i.content ahead input count c.loop-alloc.decoder c.decode.new.self _
    i.taken c.in_ok-look_ahead.ensures.kept is c.if-count-eq1.true c.in_ok-look_ahead.ensures.some c.take-in-Err.ensures.bytes i.ran i.good going c.in-Err.ensures.err
