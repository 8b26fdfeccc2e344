use Rattle.std.proofs.Common.{refl}
use Rattle.std.proofs.lemmas.Result.{IfOk-weaker}
use Rattle.world_sim.specs.Printing.{ShowsAll}
use Rattle.world_sim.proofs.SharingLemmas.{done_at}
use Rattle.world_sim.proofs.several.SharedWorld.print_views_at.Goals as goal

pub returns-clause-shows : goal.returns-clause-shows
returns-clause-shows g c =
    IfOk-weaker c.print_views-result.result _ _
    (λ views shows. done_at c.args.self.now c.sit.new.self (record c.sit.new.self { first = c.print_views-result.new.world }) c.sit-2.new.self c.args.place
    (λ was is. ShowsAll g.R.Registry g.J.Journal was is views.items)
    c.sit.ensures.seat c.sit.ensures.first c.sit.ensures.others refl shows c.sit-2.ensures.seat c.sit-2.ensures.first c.sit-2.ensures.others)
    c.print_views-result.ensures.shows
