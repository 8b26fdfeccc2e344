-- A journal that was just opened.
use Rattle.std.specs.Prelude.{◌≡◌, Result, Ok, Err}
use Rattle.sqlite_disk.specs.declared.Disk as disk
use Rattle.sqlite_disk.specs.declared.Files.{Files}
use Rattle.sqlite_store.specs.declared.store.FileStore.{FileStore}
use Rattle.sqlite.specs.declared.error.Error.{Error}
use Rattle.sqlite.specs.declared.file.Leftover.{Leftover}
use Rattle.sqlite.specs.Files.{Finds, IsCleanLeft, IsOpened as IsConnected, LeavesFiles, file_state, over_files}
use Rattle.sqlite.specs.Held.{Held, state}
use Rattle.sqlite.specs.State.{State, HasCleanDisk, IsLive, Survives}
use Rattle.sqlite_trees.specs.declared.store.Store as store
use Rattle.journal_core.specs.Entries.{EntryMap}
use Rattle.journal_core.specs.declared.journals.Journal.{Ghosts}
use Rattle.journal_store.specs.Kept.{Kept, IsFaithful, IsHonest, kept_entries}
use Rattle.journal_store.specs.Opening.{LeavesStanding, Stands}
use Rattle.journal_store.specs.Connections.{IsLaid}
use Rattle.journal_store.specs.Rows.{entries_in}
use Rattle.sql_tables.specs.Statements.{LeavesStore}
use Rattle.storage.specs.declared.journal_file.Opened.{Opened}
use Rattle.storage.specs.declared.journal_file.Opened.TheVariants.{Entries, Carried}

-- no call has been made on it yet
pub record IsOpened {J : Type 0} (g : Ghosts J) (j : J) : Type 0 where
  pub faithful : g.is_honest j → g.is_faithful j
  pub faults : g.faults j ≡ 0
  pub writes : g.writes j ≡ 0

-- the same, and it has entries that an opening of its place finds
pub record IsOpenedAt {J : Type 0} (g : Ghosts J) (finds : EntryMap → Type 0) (j : J) : Type 0 where
  pub opened : IsOpened g j
  pub found : g.is_honest j → finds (g.entries j)

-- ---- connections

-- the tables of a connection were refused: its last commit stays
pub record KeepsTables (before after : State) : Type 0 where
  pub kept : HasCleanDisk after → LeavesStore before after
  pub stop : Survives before after (LeavesStanding before)

-- a journal was opened from a connection, and has the entries of its tables
pub record OpensFrom {S : Type 0} (g : store.Ghosts S) (before : State) (journal : Kept S) : Type 0 where
  pub faithful : IsHonest g journal → IsFaithful g journal
  pub counts : (journal.faults ≡ 0) × (journal.writes ≡ 0)
  pub stands : IsHonest g journal → Stands before (kept_entries g journal)
  pub stop : Survives before (state g journal.conn) (LeavesStanding before)

-- the tables are of the current format, unless the disk lost something
pub record IsCarried (s : State) : Type 0 where
  pub live : IsLive s
  pub laid : HasCleanDisk s → IsLaid s

-- an older format was carried over, and the tables have the entries that were there
pub record CarriesOver (before after : State) : Type 0 where
  pub carried : IsCarried after
  pub stands : HasCleanDisk after → Stands before (entries_in after.committed.trees)
  pub stop : Survives before after (LeavesStanding before)

-- a journal was opened, or an older format was carried over
abbrev pub Opens : {S : Type 0} → store.Ghosts S → State → Opened S → Type 0
Opens g before (Entries journal) = OpensFrom g before journal
Opens g before (Carried conn) = CarriesOver before (state g conn)

-- ---- files

-- these files were connected to, and the tables of that connection have these entries; without tables there are none
pub record FindsEntries {D : Type 0} (g : disk.Ghosts D) (files : Files D) (entries : EntryMap) : Type 0 where
  pub conn : Held (FileStore D g)
  pub connected : IsConnected conn
  pub found : Finds files conn
  pub stands : Stands (file_state conn) entries

-- a connection to these files was refused, and its last commit is what they held
pub record KeepsEntries {D : Type 0} {g : disk.Ghosts D} (files : Files D) (left : Held (FileStore D g)) : Type 0 where
  pub conn : Held (FileStore D g)
  pub found : Finds files conn
  pub kept : LeavesStore (file_state conn) (file_state left)
  pub stop : Survives (file_state conn) (file_state left) (LeavesStanding (file_state conn))

-- what is left of files that were refused: a connection, or why there is none, and what became of the files
abbrev pub LeavesEntries : {D : Type 0} {g : disk.Ghosts D}
    → Files D → Result (Held (FileStore D g)) (Error × Leftover D g) → Type 0
LeavesEntries files (Ok left) = HasCleanDisk (file_state left) → KeepsEntries files left
LeavesEntries files (Err refused) = IsCleanLeft refused.1 → LeavesFiles files refused.1

-- these files were connected to, and an older format was carried over in their tables
pub record CarriesFiles {D : Type 0} {g : disk.Ghosts D} (files : Files D) (now : Held (FileStore D g)) : Type 0 where
  pub carried : IsCarried (file_state now)
  pub finds : HasCleanDisk (file_state now) → FindsEntries g files (entries_in (file_state now).committed.trees)

-- a journal was opened from files, and has the entries of their tables
pub record OpensFromFiles {D : Type 0} {g : disk.Ghosts D} (files : Files D)
    (journal : Kept (FileStore D g)) : Type 0 where
  pub faithful : IsHonest over_files journal → IsFaithful over_files journal
  pub counts : (journal.faults ≡ 0) × (journal.writes ≡ 0)
  pub found : IsHonest over_files journal → FindsEntries g files (kept_entries over_files journal)

-- a journal of files was opened, or an older format was carried over
abbrev pub OpensFiles : {D : Type 0} {g : disk.Ghosts D} → Files D → Opened (FileStore D g) → Type 0
OpensFiles files (Entries journal) = OpensFromFiles files journal
OpensFiles files (Carried conn) = CarriesFiles files conn

-- the files of a connection were connected to anew, and the journal has the entries of its last commit
pub record IsOpenedAgain {D J : Type 0} {g : disk.Ghosts D} (kept : Ghosts J) (old : Held (FileStore D g))
    (new : J) : Type 0 where
  pub opened : IsOpened kept new
  pub was : kept.is_honest new → HasCleanDisk (file_state old)
  pub same : kept.is_honest new → kept.entries new ≡ entries_in (file_state old).committed.trees
