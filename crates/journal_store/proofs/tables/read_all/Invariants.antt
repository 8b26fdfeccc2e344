use Rattle.std.proofs.Common.{◌≡◌, length, map, take}
use Rattle.std.specs.Vec.Iter.{into_iter_items}
use Rattle.source_csv.specs.Records.{row_name}
use Rattle.journal_core.specs.declared.entries.Entry.{Entry}
use Rattle.journal_store.specs.Connections.{AreShownBy, Shows, last_name}
use Rattle.journal_store.proofs.tables.read_all.Given as goal

-- the entries of the rows so far, and the name of the last
abbrev pub invariant-loop-row : goal.invariant-loop-row
invariant-loop-row l = AreShownBy (Shows l.kind) (take (length l.yielded) (into_iter_items l.initial.row-iterator)) l.list.items × (l.previous ≡ last_name (map (λ (entry : Entry). row_name entry.row) l.list.items))
