use Rattle.std.proofs.Common.{◌≡◌, ◌+◌, ◌<◌, ◌++◌, ◌∷◌, [], Some, ap, rules, subst, sym, ◌∙◌}
use Rattle.rand_pcg.specs.Pcg.{pcg32}
use Rattle.world_sim.specs.Random.{counters_after, event_drawn}
use Rattle.world_sim.specs.declared.acting.Act.TheVariants as acts
use Rattle.world_sim.proofs.RandomLemmas.{AreActsSoFar, all_acts_drawn, one_act_drawn}
use Rattle.world_sim.proofs.random.random_from_any_start.Goals as goal

pub loop-preserved : goal.loop-preserved
loop-preserved c =
    let less : c.loop.counter < c.args.events = search rules in
    let event = c.in_ok-event.event in
    let word : c.next_word-word.result ≡ (pcg32 c.loop.words).0 = search rules in
    let next : c.next_word-word.new.self ≡ (pcg32 c.loop.words).1 = search rules in
    let pushed : c.push.new.self.items ≡ c.loop.acts.items ++ acts.Ours event ∷ [] = search rules in
    let drawn = one_act_drawn c.loop.words c.next_word-word.new.self c.loop.revisions c.event_drawn.new.revisions c.args.seed c.args.events c.loop.counter c.loop.acts.items event less
    (λ records_in reads. subst (λ w. event_drawn records_in [] c.loop.revisions w ≡ Some event) word (c.in_ok-event.ensures.event records_in reads))
    next
    (c.in_ok-event.ensures.counters ∙ ap (counters_after c.loop.revisions) word) c.loop.invariant in
    subst (λ items. AreActsSoFar c.next_word-word.new.self c.event_drawn.new.revisions c.args.seed c.args.events (c.loop.counter + 1) items) (sym pushed) drawn

pub returns : goal.returns
returns c =
    let whole : c.loop.counter ≡ c.args.events = search rules in
    all_acts_drawn c.loop.words c.loop.revisions c.args.seed c.args.events c.loop.counter c.loop.acts.items whole c.loop.invariant
