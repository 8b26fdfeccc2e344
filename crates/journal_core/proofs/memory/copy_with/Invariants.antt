use Rattle.std.proofs.Common.{◌≡◌}
use Rattle.std.specs.Vec.Iter.{into_iter_items}
use Rattle.journal_core.specs.Entries.{CanPutRows, with_rows}
use Rattle.journal_core.specs.Memory.{AreLawful, entries_in}
use Rattle.journal_core.proofs.memory.copy_with.Given as goal

-- the rows that are left may be put, and make of the copy what all rows make of the entries
abbrev pub invariant-loop-row : goal.invariant-loop-row
invariant-loop-row l =
    AreLawful l.copy × CanPutRows (entries_in l.copy) (into_iter_items l.row-iterator)
    × (with_rows (entries_in l.copy) (into_iter_items l.row-iterator) ≡ with_rows (entries_in l.entries) l.fn.rows.items)
