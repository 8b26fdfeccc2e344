use Rattle.std.proofs.Common.{◌≡◌, ◌++◌, List, length, map}
use Rattle.std.specs.FinMap.{from_entries}
use Rattle.journal_core.specs.Entries.{named}
use Rattle.journal_core.specs.Memory.{AreLawful, entries_in}
use Rattle.journal_core.specs.declared.entries.Entry.{Entry}
use Rattle.journal_core.proofs.memory.tree_of.Given as goal

-- the tree has the entries that were taken from the list's end, each valid
abbrev pub invariant-loop-entry : goal.invariant-loop-entry
invariant-loop-entry l =
    (taken : List Entry) × (l.initial.list.items ≡ l.list.items ++ taken) × (entries_in l.entries ≡ from_entries (map named taken))
    × AreLawful l.entries

abbrev pub decreases-loop-entry : goal.decreases-loop-entry
decreases-loop-entry l = length l.list.items
