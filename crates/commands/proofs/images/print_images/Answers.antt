use Rattle.std.proofs.Common.{◌≡◌, ◌&&◌}
use Rattle.commands.proofs.ImageLemmas.{ended, flag_else, flag_then, one_more}
use Rattle.commands.proofs.images.print_images.Goals.{else-are_rows, then-are_rows}
use Rattle.commands.proofs.images.print_images.Goals as goal

pub loop-preserved : goal.loop-preserved
loop-preserved g c =
    let more = one_more c.args.rows.now c.loop.rows c.print_next.new.rows (g.W.Write.contents c.args.out.now) (g.W.Write.contents c.loop.out) (g.W.Write.contents c.print_next.new.out) c.loop.are_rows c.in-Some.is_row c.in_ok-is_row.field-0 c.loop.invariant c.in-Some.is c.in_ok-is_row.ensures.prints in
    let flag : c.if-are_rows.are_rows ≡ (c.loop.are_rows && c.in-Some.is_row) = elim c.if-are_rows.branch [
      | then-are_rows w ↦ flag_then c.loop.are_rows c.in-Some.is_row c.if-are_rows.are_rows w.if-are_rows.true w.are_rows-is
      | else-are_rows w ↦ flag_else c.loop.are_rows c.in-Some.is_row c.if-are_rows.are_rows w.if-are_rows.false w.are_rows-is
    ] in
    rw flag more

pub returns-in-None-clause-prints : goal.returns-in-None-clause-prints
returns-in-None-clause-prints g c =
    ended c.args.rows.now c.loop.rows c.print_next.new.rows (g.W.Write.contents c.args.out.now) (g.W.Write.contents c.loop.out) (g.W.Write.contents c.print_next.new.out) (g.W.Write.contents c.flush.new.out) c.loop.are_rows c.in_ok-is_row.field-0 c.status_of_rows.result c.loop.invariant c.in-None.is c.in_ok-is_row.ensures.prints c.flush.ensures c.status_of_rows.ensures
