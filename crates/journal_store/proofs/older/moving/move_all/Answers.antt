use Rattle.std.proofs.Common.{arith}
use Rattle.sqlite.specs.Held.{state}
use Rattle.sqlite.specs.State.{HasCleanDisk}
use Rattle.sql_tables.proofs.Results.{on_both}
use Rattle.journal_store.proofs.OlderFormats.Moving.{can_still, moves_then}
use Rattle.journal_store.proofs.older.moving.move_all.Goals as goal

pub move_rest-requires-clause-movable : goal.move_rest-requires-clause-movable
move_rest-requires-clause-movable g c clean opened =
    let old = state g.S.Store c.args.tables.now.conn.now in
    let first : HasCleanDisk old = omega (arith, clean, c.move_parts.ensures.quiet.clean) in
    can_still c.args.table old (state g.S.Store c.move_parts.new.tables.conn.now) (c.requires.movable first ((c.in_ok-move_parts.ensures.left clean).was_open opened)) (c.in_ok-move_parts.ensures.moved clean opened)

pub returns-clause-moved : goal.returns-clause-moved
returns-clause-moved g c clean =
    let mid = state g.S.Store c.move_parts.new.tables.conn.now in
    let last = state g.S.Store c.move_rest.new.tables.conn.now in
    let at_mid : HasCleanDisk mid = omega (arith, clean, c.move_rest.ensures.goes_on.quiet.clean) in
    on_both c.move_rest.result
    (λ all opened. record { moves = moves_then c.args.table (state g.S.Store c.args.tables.now.conn.now) mid last (c.in_ok-move_parts.ensures.moved at_mid ((c.move_rest.ensures.goes_on.left clean).was_open opened)) all.moves; none = all.none })
    (c.move_rest.ensures.moved clean) (c.move_rest.ensures.goes_on.is_open clean)
