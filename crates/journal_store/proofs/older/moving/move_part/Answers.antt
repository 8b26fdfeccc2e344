use Rattle.std.proofs.Common.{arith}
use Rattle.sqlite.specs.Held.{state}
use Rattle.sqlite.specs.State.{HasCleanDisk}
use Rattle.journal_store.proofs.OlderFormats.Moving.{part_moves}
use Rattle.journal_store.proofs.older.moving.move_part.Goals as goal

pub returns-clause-moved : goal.returns-clause-moved
returns-clause-moved g c clean =
    let old = state g.S.Store c.args.tables.now.conn.now in
    let first = state g.S.Store c.execute.new.self.conn.now in
    let last = state g.S.Store c.execute-2.new.self.conn.now in
    let at_one : HasCleanDisk first = omega (arith, clean, c.execute-2.ensures.survives.clean) in
    let at_old : HasCleanDisk old = omega (arith, at_one, c.execute.ensures.survives.clean) in
    let one = c.in_ok-count.ensures.runs at_one (c.requires.inside at_old) in
    let two = c.in_ok-execute.ensures.runs clean one.1.mode in
    part_moves old first last _ _ c.args.table c.copy_part_statement.result.now c.empty_part_statement.result.now _ c.copy_part_statement.ensures c.empty_part_statement.ensures (c.requires.movable at_old one.1.was_open) one.0 two.0
