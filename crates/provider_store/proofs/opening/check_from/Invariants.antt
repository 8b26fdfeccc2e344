use Rattle.sqlite.specs.Held.{state}
use Rattle.sqlite.specs.State.{HasCleanDisk}
use Rattle.provider_store.specs.Connections.{resources}
use Rattle.provider_store.specs.Lawful.{AreLawfulTo}
use Rattle.sql_tables.specs.Statements.{Looks}
use Rattle.provider_store.proofs.opening.check_from.Given as goal

-- the connection is unchanged, and the rows up to `count` are valid
abbrev pub invariant-loop-count : goal.invariant-loop-count
invariant-loop-count g l = Looks (state g.S.Store l.fn.conn) (state g.S.Store l.conn) × (HasCleanDisk (state g.S.Store l.conn) → AreLawfulTo (resources (state g.S.Store l.fn.conn)) l.count)
