use Rattle.std.proofs.Common.{arith, ◌≡◌, ◌+◌, ◌∷◌, ap, inr, length, rules, subst, ◌∙◌}
use Rattle.world_sim.specs.Random.{seed_draws_turns}
use Rattle.world_sim.specs.SeveralPrinting.{EndsPrintingSeveral, PrintsSeveral}
use Rattle.commands.proofs.simulation.simulate_several.Goals as goal

pub returns-in-Ok-clause-done : goal.returns-in-Ok-clause-done
returns-in-Ok-clause-done g c =
    let many : length c.args.others.items + 1 ≡ length (c.args.first ∷ c.args.others.items) = omega arith in
    let connectors : c.in_ok-connectors.connectors ≡ length c.args.others.items + 1 = search rules in
    let same : c.as_slice.result.now ≡ c.in_ok-turns.turns.items = search rules in
    record {
      turns = c.in_ok-turns.turns.items;
      drawn = λ records_in reads. c.in_ok-turns.ensures.drawn records_in reads ∙ ap (λ n. seed_draws_turns records_in c.args.seed n c.args.count) (connectors ∙ many);
      printed = c.in-Ok.printed;
      prints = subst (λ turns. PrintsSeveral g.R.Registry g.J.Journal g.W.Write.contents c.args.registry (c.args.first ∷ c.args.others.items) c.args.base turns c.args.settles c.args.lines.now c.print_several.new.lines c.in-Ok.printed)
          same c.in-Ok.ensures.prints;
      status_is = search rules;
    }

pub returns-clause-fault : goal.returns-clause-fault
returns-clause-fault g c =
    let many : length c.args.others.items + 1 ≡ length (c.args.first ∷ c.args.others.items) = omega arith in
    let connectors : c.in_ok-connectors.connectors ≡ length c.args.others.items + 1 = search rules in
    let same : c.as_slice.result.now ≡ c.in_ok-turns.turns.items = search rules in
    inr (record {
      turns = c.in_ok-turns.turns.items;
      drawn = λ records_in reads. c.in_ok-turns.ensures.drawn records_in reads ∙ ap (λ n. seed_draws_turns records_in c.args.seed n c.args.count) (connectors ∙ many);
      why = c.in-Err.fault;
      ends = subst (λ turns. EndsPrintingSeveral g.R.Registry g.J.Journal g.W.Write.contents c.args.registry (c.args.first ∷ c.args.others.items) c.args.base turns c.args.lines.now c.print_several.new.lines c.in-Err.fault)
          same c.in-Err.ensures.fault;
      is = search rules;
    })
