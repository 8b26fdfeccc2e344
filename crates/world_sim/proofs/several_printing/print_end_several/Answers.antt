use Rattle.std.proofs.Common.{◌++◌, map}
use Rattle.std.proofs.KnownBytes.{Appends-kept, Appends-trans}
use Rattle.world_sim.specs.Printing.{settled_lines}
use Rattle.world_sim.specs.SeveralPrinting.{views_lines}
use Rattle.world_sim.proofs.several_printing.print_end_several.Goals as goal

pub returns : goal.returns
returns g c =
    let contents = g.W.Write.contents in
    let count = settled_lines c.in_ok-print_settling.field-0 in
    let views = views_lines (map (λ views. views.items) c.in_ok-views.views.items) in
    record {
      count = c.in_ok-print_settling.field-0;
      settled = c.print_settling.new.world;
      settles = c.in_ok-print_settling.ensures.settles;
      shows = c.in_ok-views.ensures.shows;
      lines = Appends-kept (contents c.args.out.now) (contents c.print_all_views.new.out) (contents c.flush.new.out) (count ++ views)
          (Appends-trans (contents c.args.out.now) (contents c.print_settling.new.out) (contents c.print_all_views.new.out) count views c.in_ok-print_settling.ensures.line c.in_ok-views.ensures.lines)
          c.flush.ensures;
    }
