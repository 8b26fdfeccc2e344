use Rattle.std.proofs.Common.{refl}
use Rattle.world_sim.proofs.PrintingAmongLemmas.{all_printed, stops_after}
use Rattle.world_sim.proofs.printing_among.print_run_among.Goals as goal

pub returns-clause-prints : goal.returns-clause-prints
returns-clause-prints g c =
    all_printed g.R.Registry g.J.Journal g.W.Write.contents c.args.registry c.args.journal c.args.base c.args.acts.now c.args.settles c.args.lines.now c.run_telling_among.new.follower
    (record { out = c.print_end_among.new.out; reports = c.run_telling_among.new.follower.reports }) c.in_ok-world.world
    (record { world = c.print_end_among.new.world; views = c.in_ok-views.views; others = c.in_ok-views.others }) c.in_ok-world.ensures.ran c.in_ok-views.ensures refl

pub returns-in_err-views-clause-fault : goal.returns-in_err-views-clause-fault
returns-in_err-views-clause-fault g c =
    stops_after g.R.Registry g.J.Journal g.W.Write.contents c.args.registry c.args.journal c.args.base c.args.acts.now c.args.lines.now c.run_telling_among.new.follower
    (record { out = c.print_end_among.new.out; reports = c.run_telling_among.new.follower.reports }) c.in_ok-world.world c.from_residual-in_err-views.result c.in_ok-world.ensures.ran refl
