use Rattle.std.proofs.Common.{rules}
use Rattle.std.proofs.lemmas.Result.{IfOk-weaker}
use Rattle.mapping.specs.Settling.{IsSettleOrder}
use Rattle.world_sim.specs.Running.{names_in}
use Rattle.world_sim.specs.Strangers.{strangers}
use Rattle.world_sim.proofs.PrintingAmongLemmas.{others_shown}
use Rattle.world_sim.proofs.printing_among.print_others.Goals as goal

pub returns-clause-shows : goal.returns-clause-shows
returns-clause-shows g c =
    let names = c.as_slice.result.now in
    let ordered : IsSettleOrder (strangers (names_in g.J.Journal c.args.world.now.connector) c.args.acts.now) names = search rules in
    IfOk-weaker c.print_each.result _ _
    (λ views each. others_shown g.R.Registry g.J.Journal c.args.world.now c.print_each.new.world c.args.acts.now names views.items ordered c.in_ok-names.ensures.open each)
    c.print_each.ensures.shows
