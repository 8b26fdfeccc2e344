use Rattle.std.proofs.Common.{arith}
use Rattle.sqlite.specs.Held.{state}
use Rattle.sqlite.specs.State.{HasCleanDisk}
use Rattle.sql_tables.proofs.Marking.{mark_shown, numbers_shown}
use Rattle.sql_tables.proofs.marks.find_mark.Goals as goal

pub returns-clause-mark : goal.returns-clause-mark
returns-clause-mark g c clean =
    let old = state g.S.Store c.args.conn.now in
    let early : HasCleanDisk old = omega (arith, clean, c.in_ok-rows.ensures.checks.looks.quiet.clean) in
    let laid = c.requires.laid early ((c.in_ok-rows.ensures.checks.looks.keeps clean).was_open (c.in_ok-rows.ensures.checks.is_open clean)) in
    let all = numbers_shown old c.args.sql.now c.in_ok-rows.rows.items c.requires.shows c.requires.given laid (c.in_ok-rows.ensures.rows clean) in
    mark_shown old c.in_ok-rows.rows.items all c.as_slice.result.now c.args.own c.mark_in.result c.as_slice.ensures.value c.mark_in.ensures
