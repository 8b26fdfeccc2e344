use Rattle.std.proofs.Common.{◌≡◌, rules}
use Rattle.std.proofs.lemmas.Result.{IfOk-weaker}
use Rattle.world_sim.specs.Running.{names_in}
use Rattle.world_sim.proofs.PrintingLemmas.{all_shown}
use Rattle.world_sim.proofs.printing.print_views.Goals as goal

pub returns-clause-shows : goal.returns-clause-shows
returns-clause-shows g c =
    let names = c.as_slice.result.now in
    let are : names ≡ names_in g.J.Journal c.args.world.now.connector = search rules in
    IfOk-weaker c.print_each.result _ _
    (λ views each. all_shown g.R.Registry g.J.Journal c.args.world.now c.print_each.new.world names views.items are c.in_ok-names.ensures.open each)
    c.print_each.ensures.shows
