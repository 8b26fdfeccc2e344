use Rattle.std.proofs.Common.{◌≡◌, ◌+◌, ◌++◌, vec_len}
use Rattle.std.specs.Vec.Iter.{into_iter_items}
use Rattle.connector_core.specs.Book.{wanted_row}
use Rattle.connector_core.specs.Maps.{book_of}
use Rattle.snapshots.specs.Snapshots.{numbered_file}
use Rattle.snapshots.specs.Tally.{counts}
use Rattle.snapshots.proofs.records.number_file.Given as goal

-- the rows so far, and those of the records that are left
abbrev pub invariant-loop-said : goal.invariant-loop-said
invariant-loop-said g l =
    numbered_file (wanted_row (book_of l.connector.book)) (counts l.tally) 1 l.fn.records.items
    ≡ l.rows.items ++ numbered_file (wanted_row (book_of l.connector.book)) (counts l.tally) (vec_len l.rows + 1)
    (into_iter_items l.said-iterator)
