use Rattle.std.proofs.Common.{◌≡◌, ℕ, ◌+◌, ◌/◌, ◌%◌, ◌<◌, ◌++◌, ◌∷◌, [], Some, rules, subst, sym}
use Rattle.rand_pcg.specs.Pcg.{pcg32}
use Rattle.world_sim.specs.Random.{held_drawn}
use Rattle.world_sim.proofs.RandomLemmas.{AreHeldSoFar, all_held, one_held}
use Rattle.world_sim.proofs.random.random_start.Goals as goal

pub loop-preserved : goal.loop-preserved
loop-preserved c =
    let held : ℕ = 1 + c.next_word.result / 65_536 % 36 in
    let less : c.loop.counter < held = search rules in
    let act = c.in_ok-held_drawn.field-0 in
    let word : c.next_word-word.result ≡ (pcg32 c.loop.words).0 = search rules in
    let next : c.next_word-word.new.self ≡ (pcg32 c.loop.words).1 = search rules in
    let pushed : c.push.new.self.items ≡ c.loop.acts.items ++ act ∷ [] = search rules in
    let more = one_held c.loop.words c.next_word-word.new.self c.args.seed held c.loop.counter c.loop.acts.items act less
    (λ records_in reads. subst (λ w. held_drawn records_in (w / 65_536) ≡ Some act) word (c.in_ok-held_drawn.ensures records_in reads)) next c.loop.invariant in
    subst (λ items. AreHeldSoFar c.next_word-word.new.self c.args.seed held (c.loop.counter + 1) items) (sym pushed) more

pub returns : goal.returns
returns c =
    let held : ℕ = 1 + c.next_word.result / 65_536 % 36 in
    let whole : c.loop.counter ≡ held = search rules in
    all_held c.loop.words c.args.seed held c.loop.counter c.loop.acts.items whole c.loop.invariant
