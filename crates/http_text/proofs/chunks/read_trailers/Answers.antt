use Rattle.std.proofs.Common.{rules, ◌≡◌, ◌++◌, ◌∷◌, [], get_or, arith, length-append, refl, ap, sym, ◌∙◌}
use Rattle.std.proofs.lemmas.Result.{err_from_is_err_and}
use Rattle.http_text.specs.declared.trailers.TrailerPlace.TheVariants.{End, Malformed}
use Rattle.http_text.specs.Trailers.{place_after}
use Rattle.http_text.proofs.TrailerLemmas.{not_at_end, open_part, cut_none, one_taken, places_more, never_trailers, trailers_from_places, open_or_end}
use Rattle.http_text.proofs.chunks.read_trailers.Goals as goal

pub returns-in_err-look_ahead-clause-cut : goal.returns-in_err-look_ahead-clause-cut
returns-in_err-look_ahead-clause-cut g c =
    let p = err_from_is_err_and c.from_residual.result c.from_residual.ensures.1 in
    let other : c.loop-alloc.place ≡ End → ⊥ = search rules in
    let i = c.loop-alloc.invariant in
    rw (p.1, p.2) (cut_none _ _ _ i.bytes c.args.room _ i.taken (open_part c.loop-alloc.place i.bytes i.at (not_at_end c.loop-alloc.place i.go_on other)) c.in_err-look_ahead.ensures.none)

pub returns-then-room-eq0-clause-cut : goal.returns-then-room-eq0-clause-cut
returns-then-room-eq0-clause-cut g c =
    let other : c.loop-alloc.place ≡ End → ⊥ = search rules in
    let i = c.loop-alloc.invariant in
    let last = get_or c.look_ahead.new.reader.ahead 0 0 in (
      i.bytes ++ last ∷ [],
      one_taken _ _ _ _ i.bytes c.look_ahead.new.reader.ahead i.taken c.in_ok-look_ahead.ensures.kept c.in_ok-look_ahead.ensures.some c.take.ensures.bytes,
      (
        omega (arith, i.counted, length-append i.bytes (last ∷ [])),
        (i.bytes, last, refl, open_part c.loop-alloc.place i.bytes i.at (not_at_end c.loop-alloc.place i.go_on other)),
      ),
    )

pub returns-then-eq-clause-cut : goal.returns-then-eq-clause-cut
returns-then-eq-clause-cut g c =
    let other : c.loop-alloc.place ≡ End → ⊥ = search rules in
    let i = c.loop-alloc.invariant in
    let last = get_or c.look_ahead.new.reader.ahead 0 0 in
    let is_open = not_at_end c.loop-alloc.place i.go_on other in
    let bad : c.after-place.result ≡ Malformed = search rules in (
      i.bytes ++ last ∷ [],
      one_taken _ _ _ _ i.bytes c.look_ahead.new.reader.ahead i.taken c.in_ok-look_ahead.ensures.kept c.in_ok-look_ahead.ensures.some c.take.ensures.bytes,
      (
        never_trailers i.bytes last (rw i.at is_open) (places_more i.bytes last c.loop-alloc.place i.at ∙ sym (c.after-place.ensures ∙ ap (λ t. place_after c.loop-alloc.place (get_or t 0 0)) c.ahead.ensures) ∙ bad),
        (i.bytes, last, refl, open_part c.loop-alloc.place i.bytes i.at is_open),
      ),
    )

pub loop-alloc-preserved : goal.loop-alloc-preserved
loop-alloc-preserved g c =
    let other : c.after-place.result ≡ Malformed → ⊥ = search rules in
    let i = c.loop-alloc.invariant in
    let last = get_or c.look_ahead.new.reader.ahead 0 0 in
    record {
      bytes = i.bytes ++ last ∷ [];
      taken = one_taken _ _ _ _ i.bytes c.look_ahead.new.reader.ahead i.taken c.in_ok-look_ahead.ensures.kept c.in_ok-look_ahead.ensures.some c.take.ensures.bytes;
      at = places_more i.bytes last c.loop-alloc.place i.at ∙ sym (c.after-place.ensures ∙ ap (λ t. place_after c.loop-alloc.place (get_or t 0 0)) c.ahead.ensures);
      go_on = open_or_end c.after-place.result other;
      counted = omega (arith, i.counted, length-append i.bytes (last ∷ []));
      counts = search rules;
      clean = search rules;
    }

pub returns-clause-trailers : goal.returns-clause-trailers
returns-clause-trailers g c =
    let i = c.loop-alloc.invariant in
    let done : c.loop-alloc.place ≡ End = search rules in
    (i.bytes, i.taken, trailers_from_places i.bytes (i.at ∙ done), omega (arith, i.counted))
