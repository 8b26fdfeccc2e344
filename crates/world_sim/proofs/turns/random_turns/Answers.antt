use Rattle.std.proofs.Common.{◌≡◌, ◌+◌, ◌<◌, ◌++◌, ◌∷◌, [], Some, ap, length, length-append, rules, subst, sym, ◌∙◌}
use Rattle.std.proofs.lemmas.List.{length-set}
use Rattle.std.specs.List.{AllByRecursion}
use Rattle.world_sim.specs.Random.{all_after, counters_after, counters_at, place_drawn, turn_drawn, word_drawn}
use Rattle.world_sim.specs.Several.{IsBelow}
use Rattle.world_sim.proofs.RandomLemmas.{AreTurnsSoFar, all_turns_drawn, one_turn_drawn}
use Rattle.world_sim.proofs.Reaching.{all_more}
use Rattle.world_sim.proofs.turns.random_turns.Goals as goal

pub loop-preserved : goal.loop-preserved
loop-preserved c =
    let less : c.loop.counter < c.args.count = search rules in
    let turn = c.in_ok-next.field-0 in
    let old = c.loop.draws.generator in
    let all = c.loop.draws.revisions.items in
    let pushed : c.push.new.self.items ≡ c.loop.turns.items ++ turn ∷ [] = search rules in
    let many = c.loop.invariant.1 in
    let later = c.in_ok-next.ensures.counters ∙ ap (λ n. all_after all (place_drawn n old) (word_drawn old).0) many in
    let drawn = one_turn_drawn old c.next.new.self.generator all c.next.new.self.revisions.items c.args.seed c.args.connectors c.args.count c.loop.counter c.loop.turns.items turn less
    (λ records_in reads. subst (λ n. turn_drawn records_in all (place_drawn n old) (word_drawn old).0 ≡ Some turn) many (c.in_ok-next.ensures.turn records_in reads))
    c.in_ok-next.ensures.generator later c.loop.invariant.3 in (
      ap length pushed ∙ length-append c.loop.turns.items (turn ∷ []) ∙ ap (λ n. n + 1) c.loop.invariant.0,
      ap length later ∙ length-set all (place_drawn c.args.connectors old) (counters_after (counters_at all (place_drawn c.args.connectors old)) (word_drawn old).0) ∙ many,
      subst (AllByRecursion (IsBelow c.args.connectors)) (sym pushed) (all_more (IsBelow c.args.connectors) c.loop.turns.items turn c.loop.invariant.2 (subst (λ n. turn.place < n) many c.in_ok-next.ensures.place)),
      subst (λ items. AreTurnsSoFar c.next.new.self.generator c.next.new.self.revisions.items c.args.seed c.args.connectors c.args.count (c.loop.counter + 1) items) (sym pushed) drawn,
    )

pub returns-clause-drawn : goal.returns-clause-drawn
returns-clause-drawn c records_in reads =
    all_turns_drawn c.loop.draws.generator c.loop.draws.revisions.items c.args.seed c.args.connectors c.args.count c.loop.counter c.loop.turns.items (search rules) c.loop.invariant.3 records_in reads
