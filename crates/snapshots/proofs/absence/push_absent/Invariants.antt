use Rattle.std.proofs.Common.{◌≡◌, ◌++◌}
use Rattle.std.specs.FinMap.{keys}
use Rattle.std.specs.Vec.Iter.{into_iter_items}
use Rattle.connector_core.specs.Book.{wanted_row}
use Rattle.connector_core.specs.Maps.{book_of}
use Rattle.snapshots.specs.Snapshots.{numbered_absent}
use Rattle.snapshots.specs.Tally.{counts}
use Rattle.snapshots.proofs.absence.push_absent.Given as goal

-- the rows so far, and those of the names that are left
abbrev pub invariant-loop-name : goal.invariant-loop-name
invariant-loop-name g l =
    l.initial.rows.items ++ numbered_absent (wanted_row (book_of l.connector.book)) (counts l.tally) l.kind l.place
    (keys l.connector.book)
    ≡ l.rows.items ++ numbered_absent (wanted_row (book_of l.connector.book)) (counts l.tally) l.kind l.place
    (into_iter_items l.name-iterator)
