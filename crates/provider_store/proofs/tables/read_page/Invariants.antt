use Rattle.std.proofs.Common.{◌≡◌, ◌+◌, suc, length, take}
use Rattle.provider_store.specs.Connections.{AreRowsFrom}
use Rattle.provider_store.proofs.tables.read_page.Given as goal

-- the page has what the rows so far show, and the number of its last record
abbrev pub invariant-loop-row : goal.invariant-loop-row
invariant-loop-row l = AreRowsFrom (suc l.after) (take l.row-index l.rows) l.page.items × (l.last ≡ l.after + length l.page.items)
