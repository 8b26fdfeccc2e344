use Rattle.std.proofs.Common.{refl, ◌∙◌}
use Rattle.sqlite.specs.Held.{state}
use Rattle.journal_store.proofs.OlderFormats.Moving.{movable_still, moved_next, moved_none}
use Rattle.journal_store.proofs.older.moving.move_parts.Goals as goal

pub loop-part-init : goal.loop-part-init
loop-part-init g c = (moved_none c.args.table (state g.S.Store c.args.tables.now.conn.now) c.requires.movable c.requires.inside, refl)

pub move_part-requires-clause-movable : goal.move_part-requires-clause-movable
move_part-requires-clause-movable g c = movable_still c.args.table (state g.S.Store c.args.tables.now.conn.now) c.requires.movable (state g.S.Store c.loop-part.tables.conn.now) c.loop-part.invariant.0

pub loop-part-preserved : goal.loop-part-preserved
loop-part-preserved g c =
    let it = c.in_ok-count.ensures in (
      moved_next c.args.table (state g.S.Store c.args.tables.now.conn.now) (state g.S.Store c.loop-part.tables.conn.now) (state g.S.Store c.move_part.new.tables.conn.now) c.loop-part.invariant.0 it.goes_on.inside it.goes_on.left it.goes_on.quiet it.moved,
      it.same_reference ∙ c.loop-part.invariant.1,
    )

pub returns-then-count-eq0-clause-moved : goal.returns-then-count-eq0-clause-moved
returns-then-count-eq0-clause-moved g c clean opened =
    let it = c.in_ok-count.ensures in
    (moved_next c.args.table (state g.S.Store c.args.tables.now.conn.now) (state g.S.Store c.loop-part.tables.conn.now) (state g.S.Store c.move_part.new.tables.conn.now) c.loop-part.invariant.0 it.goes_on.inside it.goes_on.left it.goes_on.quiet it.moved).moves clean opened
