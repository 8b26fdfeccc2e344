use Rattle.std.proofs.Common.{arith}
use Rattle.sqlite.specs.Held.{state}
use Rattle.sqlite.specs.State.{HasCleanDisk}
use Rattle.journal_store.proofs.OlderFormats.Carried.{first_carried, first_movable}
use Rattle.journal_store.proofs.older.carrying.carry_first.Goals as goal

pub move_all-requires-clause-movable : goal.move_all-requires-clause-movable
move_all-requires-clause-movable g c clean opened =
    let old = state g.S.Store c.args.tables.now.conn.now in
    let first = state g.S.Store c.execute.new.self.conn.now in
    let at_old : HasCleanDisk old = omega (arith, clean, c.execute.ensures.survives.clean) in
    let one = c.in_ok-execute.ensures.runs clean (c.requires.inside at_old) in
    let held = c.requires.first at_old one.1.was_open in
    first_movable old first c.in_ok-execute.field-0 one.0 held.0 held.1

pub returns-clause-carried : goal.returns-clause-carried
returns-clause-carried g c clean held it =
    let old = state g.S.Store c.args.tables.now.conn.now in
    let first = state g.S.Store c.execute.new.self.conn.now in
    let second = state g.S.Store c.move_all.new.tables.conn.now in
    let last = state g.S.Store c.execute-2.new.self.conn.now in
    let at_two : HasCleanDisk second = omega (arith, clean, c.execute-2.ensures.survives.clean) in
    let at_one : HasCleanDisk first = omega (arith, at_two, c.move_all.ensures.goes_on.quiet.clean) in
    let at_old : HasCleanDisk old = omega (arith, at_one, c.execute.ensures.survives.clean) in
    let one = c.in_ok-execute.ensures.runs at_one (c.requires.inside at_old) in
    let three = c.in_ok-changed.ensures.runs clean (c.in_ok-move_all.ensures.goes_on.inside at_two) in
    (first_carried old first c.in_ok-execute.field-0 one.0 held it second last c.in_ok-changed.changed (c.in_ok-move_all.ensures.moved at_two) three.0 c.in_ok-one_changed.ensures.one).0

pub returns-clause-emptied : goal.returns-clause-emptied
returns-clause-emptied g c clean =
    let old = state g.S.Store c.args.tables.now.conn.now in
    let first = state g.S.Store c.execute.new.self.conn.now in
    let second = state g.S.Store c.move_all.new.tables.conn.now in
    let last = state g.S.Store c.execute-2.new.self.conn.now in
    let at_two : HasCleanDisk second = omega (arith, clean, c.execute-2.ensures.survives.clean) in
    let at_one : HasCleanDisk first = omega (arith, at_two, c.move_all.ensures.goes_on.quiet.clean) in
    let at_old : HasCleanDisk old = omega (arith, at_one, c.execute.ensures.survives.clean) in
    let one = c.in_ok-execute.ensures.runs at_one (c.requires.inside at_old) in
    let three = c.in_ok-changed.ensures.runs clean (c.in_ok-move_all.ensures.goes_on.inside at_two) in
    let held = c.requires.first at_old one.1.was_open in
    (first_carried old first c.in_ok-execute.field-0 one.0 held.0 held.1 second last c.in_ok-changed.changed (c.in_ok-move_all.ensures.moved at_two) three.0 c.in_ok-one_changed.ensures.one).1
