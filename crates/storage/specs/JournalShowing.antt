-- What is shown of a journal.
use Rattle.std.specs.Prelude.{◌≡◌, ℕ, List, Option, Result, OnOk}
use Rattle.std.specs.Io.KnownBytes.{Appends}
use Rattle.journal_core.specs.Entries.{EntryMap, IsListOf}
use Rattle.journal_core.specs.declared.entries.Entry.{Entry}
use Rattle.journal_core.specs.declared.journals.Journal.{Ghosts}
use Rattle.storage.specs.JournalOpened.{IsOpenedAt}
use Rattle.storage.specs.JournalLines.{lines_of}
use Rattle.storage.specs.declared.show_fault.ShowFault.{ShowFault}

-- a line for each entry is written, in order of the names
pub record WritesEntries (map_ : EntryMap) (before after : Option (List ℕ)) : Type 0 where
  pub list : List Entry
  pub whole : IsListOf map_ list
  pub lines : Appends before after (lines_of list)

-- this holds for the journal that was opened
pub record ShowsFrom {J : Type 0} (g : Ghosts J) (finds : EntryMap → Type 0)
    (before after : Option (List ℕ)) : Type 0 where
  pub first : J
  pub last : J
  pub opened : IsOpenedAt g finds first
  pub lines : g.is_faithful last → WritesEntries (g.entries first) before after

-- the lines were written, unless that failed, and the journal was closed, which was only read
pub record ReadsAndCloses {J L : Type 0} (g : Ghosts J) (is_closed : J → L → Type 0) (before after : Option (List ℕ))
    (first : J) (ended : Result (Unit {0}) ShowFault × L) : Type 0 where
  pub last : J
  pub lines : OnOk ended.0 (g.is_faithful last → WritesEntries (g.entries first) before after)
  pub unwritten : g.writes last ≡ g.writes first
  pub closed : is_closed last ended.1
