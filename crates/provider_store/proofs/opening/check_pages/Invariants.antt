use Rattle.std.proofs.Common.{◌-◌, ◌≤◌, IsTrue}
use Rattle.scim_key.specs.Identifiers.{last_number}
use Rattle.sqlite.specs.Held.{state}
use Rattle.sqlite.specs.State.{HasCleanDisk}
use Rattle.provider_store.specs.Connections.{resources}
use Rattle.provider_store.specs.Lawful.{AreLawfulTo}
use Rattle.sql_tables.specs.Statements.{Looks}
use Rattle.provider_store.proofs.opening.check_pages.Given as goal

-- the connection is open and unchanged, and the rows up to `count` are valid
abbrev pub invariant-loop-count : goal.invariant-loop-count
invariant-loop-count g l =
    Looks (state g.S.Store l.fn.conn) (state g.S.Store l.conn)
    × (HasCleanDisk (state g.S.Store l.conn) → IsTrue (state g.S.Store l.conn).is_open)
    × (HasCleanDisk (state g.S.Store l.conn) → AreLawfulTo (resources (state g.S.Store l.fn.conn)) l.count)
    × (l.count ≤ last_number)

abbrev pub decreases-loop-count : goal.decreases-loop-count
decreases-loop-count g l = last_number - l.count
