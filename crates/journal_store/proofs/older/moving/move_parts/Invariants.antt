use Rattle.journal_store.proofs.OlderFormats.Moving.{MovedSoFar}
use Rattle.sqlite.specs.Held.{state}
use Rattle.std.proofs.Common.{◌≡◌}
use Rattle.journal_store.proofs.older.moving.move_parts.Given as goal

-- some rows are moved so far
abbrev pub invariant-loop-part : goal.invariant-loop-part
invariant-loop-part g l = MovedSoFar l.table (state g.S.Store l.fn.tables.conn.now) (state g.S.Store l.tables.conn.now) × (l.tables.conn.ghost_name ≡ l.fn.tables.conn.ghost_name)
