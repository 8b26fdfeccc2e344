use Rattle.std.proofs.Common.{◌≡◌}
use Rattle.sqlite.specs.Held.{state}
use Rattle.journal_store.proofs.Scoping.{ThereSoFar}
use Rattle.journal_store.proofs.scopes.absent_in.Given as goal

-- the names so far have entries
abbrev pub invariant-loop-name : goal.invariant-loop-name
invariant-loop-name g l = ThereSoFar l.names l.name-index (state g.S.Store l.fn.tables.conn.now) (state g.S.Store l.tables.conn.now) × (l.tables.conn.ghost_name ≡ l.fn.tables.conn.ghost_name)
