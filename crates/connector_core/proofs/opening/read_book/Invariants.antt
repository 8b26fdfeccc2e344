use Rattle.std.proofs.Common.{◌≡◌, ◌++◌, List, length}
use Rattle.journal_core.specs.declared.entries.Entry.{Entry}
use Rattle.connector_core.specs.State.{opened_book}
use Rattle.connector_core.proofs.opening.read_book.Given as goal

-- the book has the entries that were taken from the list's end
abbrev pub invariant-loop-entry : goal.invariant-loop-entry
invariant-loop-entry l = (taken : List Entry) × (l.initial.list.items ≡ l.list.items ++ taken) × (l.book ≡ opened_book taken)

abbrev pub decreases-loop-entry : goal.decreases-loop-entry
decreases-loop-entry l = length l.list.items
