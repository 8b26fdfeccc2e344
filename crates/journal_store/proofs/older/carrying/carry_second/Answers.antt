use Rattle.std.proofs.Common.{arith}
use Rattle.sqlite.specs.Held.{state}
use Rattle.sqlite.specs.State.{HasCleanDisk}
use Rattle.journal_store.proofs.OlderFormats.Carried.{groups_movable, second_carried, users_movable}
use Rattle.journal_store.proofs.older.carrying.carry_second.Goals as goal

pub make_entries-requires-clause-second : goal.make_entries-requires-clause-second
make_entries-requires-clause-second g c clean opened = let it = c.requires.second clean opened in record { form = it.1.laid.form; is = it.1.laid.schema }

pub move_all-requires-clause-movable : goal.move_all-requires-clause-movable
move_all-requires-clause-movable g c clean opened =
    let old = state g.S.Store c.args.tables.now.conn.now in
    let made = state g.S.Store c.make_entries.new.tables.conn.now in
    let first : HasCleanDisk old = omega (arith, clean, c.make_entries.ensures.goes_on.quiet.clean) in
    let it = c.requires.second first ((c.in_ok-make_entries.ensures.goes_on.left clean).was_open opened) in
    users_movable old made it.0 it.1 (c.in_ok-make_entries.ensures.made clean)

pub move_all-requires-2-clause-movable : goal.move_all-requires-2-clause-movable
move_all-requires-2-clause-movable g c clean opened =
    let old = state g.S.Store c.args.tables.now.conn.now in
    let made = state g.S.Store c.make_entries.new.tables.conn.now in
    let users = state g.S.Store c.move_all.new.tables.conn.now in
    let at_made : HasCleanDisk made = omega (arith, clean, c.move_all.ensures.goes_on.quiet.clean) in
    let first : HasCleanDisk old = omega (arith, at_made, c.make_entries.ensures.goes_on.quiet.clean) in
    let it = c.requires.second first ((c.in_ok-make_entries.ensures.goes_on.left at_made).was_open (c.in_ok-make_entries.ensures.goes_on.is_open at_made)) in
    groups_movable old made it.0 it.1 (c.in_ok-make_entries.ensures.made at_made) users (c.in_ok-move_all.ensures.moved clean)

pub returns-clause-carried : goal.returns-clause-carried
returns-clause-carried g c clean held it =
    let old = state g.S.Store c.args.tables.now.conn.now in
    let made = state g.S.Store c.make_entries.new.tables.conn.now in
    let users = state g.S.Store c.move_all.new.tables.conn.now in
    let groups = state g.S.Store c.move_all-2.new.tables.conn.now in
    let last = state g.S.Store c.execute.new.self.conn.now in
    let at_groups : HasCleanDisk groups = omega (arith, clean, c.execute.ensures.survives.clean) in
    let at_users : HasCleanDisk users = omega (arith, at_groups, c.move_all-2.ensures.goes_on.quiet.clean) in
    let at_made : HasCleanDisk made = omega (arith, at_users, c.move_all.ensures.goes_on.quiet.clean) in
    let runs = c.in_ok-changed.ensures.runs clean (c.in_ok-move_all-2.ensures.goes_on.inside at_groups) in
    (second_carried old made held it (c.in_ok-make_entries.ensures.made at_made) users (c.in_ok-move_all.ensures.moved at_users) groups last c.in_ok-changed.changed (c.in_ok-move_all-2.ensures.moved at_groups) runs.0 c.in_ok-one_changed.ensures.one).0

pub returns-clause-emptied : goal.returns-clause-emptied
returns-clause-emptied g c clean =
    let old = state g.S.Store c.args.tables.now.conn.now in
    let made = state g.S.Store c.make_entries.new.tables.conn.now in
    let users = state g.S.Store c.move_all.new.tables.conn.now in
    let groups = state g.S.Store c.move_all-2.new.tables.conn.now in
    let last = state g.S.Store c.execute.new.self.conn.now in
    let at_groups : HasCleanDisk groups = omega (arith, clean, c.execute.ensures.survives.clean) in
    let at_users : HasCleanDisk users = omega (arith, at_groups, c.move_all-2.ensures.goes_on.quiet.clean) in
    let at_made : HasCleanDisk made = omega (arith, at_users, c.move_all.ensures.goes_on.quiet.clean) in
    let first : HasCleanDisk old = omega (arith, at_made, c.make_entries.ensures.goes_on.quiet.clean) in
    let held = c.requires.second first ((c.in_ok-make_entries.ensures.goes_on.left at_made).was_open (c.in_ok-make_entries.ensures.goes_on.is_open at_made)) in
    let runs = c.in_ok-changed.ensures.runs clean (c.in_ok-move_all-2.ensures.goes_on.inside at_groups) in
    (second_carried old made held.0 held.1 (c.in_ok-make_entries.ensures.made at_made) users (c.in_ok-move_all.ensures.moved at_users) groups last c.in_ok-changed.changed (c.in_ok-move_all-2.ensures.moved at_groups) runs.0 c.in_ok-one_changed.ensures.one).1

pub returns-clause-firsts : goal.returns-clause-firsts
returns-clause-firsts g c clean =
    let old = state g.S.Store c.args.tables.now.conn.now in
    let made = state g.S.Store c.make_entries.new.tables.conn.now in
    let users = state g.S.Store c.move_all.new.tables.conn.now in
    let groups = state g.S.Store c.move_all-2.new.tables.conn.now in
    let last = state g.S.Store c.execute.new.self.conn.now in
    let at_groups : HasCleanDisk groups = omega (arith, clean, c.execute.ensures.survives.clean) in
    let at_users : HasCleanDisk users = omega (arith, at_groups, c.move_all-2.ensures.goes_on.quiet.clean) in
    let at_made : HasCleanDisk made = omega (arith, at_users, c.move_all.ensures.goes_on.quiet.clean) in
    let first : HasCleanDisk old = omega (arith, at_made, c.make_entries.ensures.goes_on.quiet.clean) in
    let held = c.requires.second first ((c.in_ok-make_entries.ensures.goes_on.left at_made).was_open (c.in_ok-make_entries.ensures.goes_on.is_open at_made)) in
    let runs = c.in_ok-changed.ensures.runs clean (c.in_ok-move_all-2.ensures.goes_on.inside at_groups) in
    (second_carried old made held.0 held.1 (c.in_ok-make_entries.ensures.made at_made) users (c.in_ok-move_all.ensures.moved at_users) groups last c.in_ok-changed.changed (c.in_ok-move_all-2.ensures.moved at_groups) runs.0 c.in_ok-one_changed.ensures.one).2
