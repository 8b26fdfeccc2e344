use Rattle.std.proofs.Common.{◌≡◌}
use Rattle.sqlite.specs.Held.{state}
use Rattle.journal_store.proofs.Batching.{PutSoFar}
use Rattle.journal_store.proofs.batches.put_each.Given as goal

-- the rows so far are put, and the others may be
abbrev pub invariant-loop-row : goal.invariant-loop-row
invariant-loop-row g l = PutSoFar l.rows l.row-index (state g.S.Store l.fn.tables.conn.now) (state g.S.Store l.tables.conn.now) × (l.tables.conn.ghost_name ≡ l.fn.tables.conn.ghost_name)
