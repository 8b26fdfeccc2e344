use Rattle.std.proofs.Common.{◌++◌}
use Rattle.std.proofs.KnownBytes.{Appends-kept, Appends-trans}
use Rattle.world_sim.specs.Printing.{others_lines, settled_lines, view_lines}
use Rattle.world_sim.proofs.printing_among.print_end_among.Goals as goal

pub returns : goal.returns
returns g c =
    let contents = g.W.Write.contents in
    let count = settled_lines c.in_ok-print_settling.field-0 in
    let views = view_lines c.in_ok-views.views.items in
    let others = others_lines c.in_ok-others.others.items in
    record {
      count = c.in_ok-print_settling.field-0;
      settled = c.print_settling.new.world;
      shown = c.print_views.new.world;
      settles = c.in_ok-print_settling.ensures.settles;
      shows = c.in_ok-views.ensures.shows;
      shows_others = c.in_ok-others.ensures.shows;
      lines = Appends-kept (contents c.args.out.now) (contents c.print_others.new.out) (contents c.flush.new.out) (count ++ (views ++ others))
          (Appends-trans (contents c.args.out.now) (contents c.print_settling.new.out) (contents c.print_others.new.out) count (views ++ others) c.in_ok-print_settling.ensures.line
          (Appends-trans (contents c.print_settling.new.out) (contents c.print_views.new.out) (contents c.print_others.new.out) views others c.in_ok-views.ensures.lines c.in_ok-others.ensures.lines))
          c.flush.ensures;
    }
