-- Rows that are put one after another in one transaction.
use Rattle.std.specs.Prelude.{◌≡◌, false, List, [], ◌∷◌, Option, is_some, IsTrue}
use Rattle.sqlite_trees.specs.Tree.{Trees}
use Rattle.sqlite.specs.State.{State, HasCleanDisk}
use Rattle.source_csv.specs.Records.{row_name}
use Rattle.source_csv.specs.declared.rows.Row.{Row}
use Rattle.journal_core.specs.Entries.{entry_with}
use Rattle.journal_core.specs.declared.entries.Entry.{Entry}
use Rattle.journal_store.specs.Connections.{Commits, Finds, IsLaid, PutsIn}

-- the row is put: its record's entry keeps everything else
abbrev pub PutsRow : Row → (old new : Trees) → Type 0
PutsRow row old new = (held : Option Entry) × Finds old (row_name row) held
    × PutsIn (is_some held) (entry_with row held) old new

-- the rows are put, one after another
abbrev pub PutsRows : List Row → (old new : Trees) → Type 0
PutsRows [] old new = new ≡ old
PutsRows (row ∷ rows) old new = (mid : Trees) × PutsRow row old mid × PutsRows rows mid new

-- what a commit at this moment would leave
abbrev pub settled : State → State
settled s = record s { committed = s.now; in_transaction = false }

-- a transaction is open, over tables that are laid out
pub record IsUnderWay (s : State) : Type 0 where
  pub inside : HasCleanDisk s → IsTrue s.in_transaction
  pub laid : HasCleanDisk s → IsTrue s.is_open → IsLaid (settled s)

-- the rows are put and committed
abbrev pub MakesRows : List Row → (old new : State) → Type 0
MakesRows rows = Commits (PutsRows rows)
