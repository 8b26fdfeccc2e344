use Rattle.std.proofs.Common.{◌≡◌}
use Rattle.sqlite.specs.Held.{state}
use Rattle.journal_store.proofs.Scoping.{ResetSoFar}
use Rattle.journal_store.proofs.scopes.reset_each.Given as goal

-- the records so far are reset
abbrev pub invariant-loop-name : goal.invariant-loop-name
invariant-loop-name g l = ResetSoFar l.names l.name-index l.count (state g.S.Store l.fn.tables.conn.now) (state g.S.Store l.tables.conn.now) × (l.tables.conn.ghost_name ≡ l.fn.tables.conn.ghost_name)
