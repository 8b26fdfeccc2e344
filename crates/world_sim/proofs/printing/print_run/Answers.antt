use Rattle.std.proofs.Common.{refl}
use Rattle.world_sim.specs.Events.{events_of}
use Rattle.world_sim.proofs.PrintingLemmas.{all_printed, stops_after}
use Rattle.world_sim.proofs.printing.print_run.Goals as goal

pub returns-clause-prints : goal.returns-clause-prints
returns-clause-prints g c =
    all_printed g.R.Registry g.J.Journal g.W.Write.contents c.args.registry c.args.journal c.args.base (events_of c.args.events.now) c.args.settles c.args.lines.now c.run_telling.new.follower
    (record { out = c.print_end.new.out; reports = c.run_telling.new.follower.reports }) c.in_ok-world.world (record { world = c.print_end.new.world; views = c.in_ok-views.views }) c.in_ok-world.ensures.ran c.in_ok-views.ensures refl

pub returns-in_err-views-clause-fault : goal.returns-in_err-views-clause-fault
returns-in_err-views-clause-fault g c =
    stops_after g.R.Registry g.J.Journal g.W.Write.contents c.args.registry c.args.journal c.args.base (events_of c.args.events.now) c.args.lines.now c.run_telling.new.follower
    (record { out = c.print_end.new.out; reports = c.run_telling.new.follower.reports }) c.in_ok-world.world c.from_residual-in_err-views.result c.in_ok-world.ensures.ran refl
