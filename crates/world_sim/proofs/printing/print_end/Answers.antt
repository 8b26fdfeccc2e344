use Rattle.std.proofs.Common.{◌++◌}
use Rattle.std.proofs.KnownBytes.{Appends-kept, Appends-trans}
use Rattle.world_sim.specs.Printing.{settled_lines, view_lines}
use Rattle.world_sim.proofs.printing.print_end.Goals as goal

pub returns : goal.returns
returns g c = record {
  count = c.in_ok-print_settling.field-0;
  between = c.print_settling.new.world;
  settles = c.in_ok-print_settling.ensures.settles;
  shows = c.in_ok-views.ensures.shows;
  lines = Appends-kept (g.W.Write.contents c.args.out.now) (g.W.Write.contents c.print_views.new.out) (g.W.Write.contents c.flush.new.out) (settled_lines c.in_ok-print_settling.field-0 ++ view_lines c.in_ok-views.views.items)
      (Appends-trans (g.W.Write.contents c.args.out.now) (g.W.Write.contents c.print_settling.new.out) (g.W.Write.contents c.print_views.new.out) (settled_lines c.in_ok-print_settling.field-0) (view_lines c.in_ok-views.views.items)
      c.in_ok-print_settling.ensures.line c.in_ok-views.ensures.lines)
      c.flush.ensures;
}
