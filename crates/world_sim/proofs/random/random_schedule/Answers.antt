use Rattle.std.proofs.Common.{◌≡◌, ◌+◌, ◌<◌, ◌++◌, ◌∷◌, [], Some, ap, length, length-append, rules, subst, sym, ◌∙◌}
use Rattle.rand_pcg.specs.Pcg.{pcg32}
use Rattle.world_sim.specs.Random.{counters_after, event_drawn}
use Rattle.world_sim.proofs.RandomLemmas.{AreDrawnSoFar, one_drawn}
use Rattle.world_sim.proofs.random.random_schedule.Goals as goal

pub loop-preserved : goal.loop-preserved
loop-preserved c =
    let less : c.loop.counter < c.args.count = search rules in
    let event = c.in_ok-event_drawn.field-0 in
    let word : c.next_word-word.result ≡ (pcg32 c.loop.generator).0 = search rules in
    let next : c.next_word-word.new.self ≡ (pcg32 c.loop.generator).1 = search rules in
    let pushed : c.push.new.self.items ≡ c.loop.events.items ++ event ∷ [] = search rules in
    let drawn = one_drawn c.loop.generator c.next_word-word.new.self c.loop.revisions c.event_drawn.new.revisions c.args.seed c.args.count c.loop.counter c.loop.events.items event less
    (λ records_in reads. subst (λ w. event_drawn records_in [] c.loop.revisions w ≡ Some event) word (c.in_ok-event_drawn.ensures.event records_in reads))
    next
    (c.in_ok-event_drawn.ensures.counters ∙ ap (counters_after c.loop.revisions) word) c.loop.invariant.1 in (
      ap length pushed ∙ length-append c.loop.events.items (event ∷ []) ∙ ap (λ n. n + 1) c.loop.invariant.0,
      subst (λ items. AreDrawnSoFar c.next_word-word.new.self c.event_drawn.new.revisions c.args.seed c.args.count (c.loop.counter + 1) items) (sym pushed) drawn,
    )
