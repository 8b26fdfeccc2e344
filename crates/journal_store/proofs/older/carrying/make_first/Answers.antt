use Rattle.std.proofs.Common.{arith}
use Rattle.sqlite.specs.Held.{state}
use Rattle.sqlite.specs.State.{HasCleanDisk}
use Rattle.journal_store.proofs.OlderFormats.Made.{first_made}
use Rattle.journal_store.proofs.older.carrying.make_first.Goals as goal

pub returns-clause-made : goal.returns-clause-made
returns-clause-made g c clean =
    let old = state g.S.Store c.args.tables.now.conn.now in
    let first = state g.S.Store c.execute.new.self.conn.now in
    let second = state g.S.Store c.execute-2.new.self.conn.now in
    let third = state g.S.Store c.execute-3.new.self.conn.now in
    let last = state g.S.Store c.execute-4.new.self.conn.now in
    let at_three : HasCleanDisk third = omega (arith, clean, c.execute-4.ensures.survives.clean) in
    let at_two : HasCleanDisk second = omega (arith, at_three, c.execute-3.ensures.survives.clean) in
    let at_one : HasCleanDisk first = omega (arith, at_two, c.execute-2.ensures.survives.clean) in
    let at_old : HasCleanDisk old = omega (arith, at_one, c.execute.ensures.survives.clean) in
    let one = c.in_ok-execute.ensures.runs at_one (c.requires.inside at_old) in
    let two = c.in_ok-execute-2.ensures.runs at_two one.1.mode in
    let three = c.in_ok-execute-3.ensures.runs at_three two.1.mode in
    let four = c.in_ok-execute-4.ensures.runs clean three.1.mode in
    let blank = c.requires.blank at_old one.1.was_open in
    first_made old first second third last c.in_ok-execute.field-0 c.in_ok-execute-2.field-0 c.in_ok-execute-3.field-0 c.in_ok-execute-4.field-0 blank.schema one.0 two.0 three.0 four.0
