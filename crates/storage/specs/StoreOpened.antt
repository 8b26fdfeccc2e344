-- A registry that was just opened, and one that was opened again after a fault of its store.
use Rattle.std.specs.Prelude.{◌≡◌, ◌⊎◌, ◌<◌, List, Result, Ok, Err}
use Rattle.sqlite_disk.specs.declared.Disk as disk
use Rattle.sqlite_disk.specs.declared.Files.{Files}
use Rattle.sqlite_store.specs.declared.store.FileStore.{FileStore}
use Rattle.sqlite.specs.declared.error.Error.{Error}
use Rattle.sqlite.specs.declared.file.Leftover.{Leftover}
use Rattle.sqlite.specs.Files.{Finds, IsCleanLeft, IsOpened as IsConnected, LeavesFiles, file_state}
use Rattle.sqlite.specs.Held.{Held}
use Rattle.sqlite.specs.State.{HasCleanDisk, Survives}
use Rattle.scim_resource.specs.Rows.{StoredRecord}
use Rattle.provider_core.specs.declared.registry.Registry.{Ghosts}
use Rattle.provider_store.specs.Opening.{LeavesNone, Stands}
use Rattle.sql_tables.specs.Statements.{LeavesStore}

-- no call has been made on it yet
pub record IsOpened {R : Type 0} (g : Ghosts R) (r : R) : Type 0 where
  pub faithful : g.is_honest r → g.is_faithful r
  pub faults : g.faults r ≡ 0
  pub writes : g.writes r ≡ 0

-- the same, and it has rows that an opening of its place finds
pub record IsOpenedAt {R : Type 0} (g : Ghosts R) (finds : List StoredRecord → Type 0) (r : R) : Type 0 where
  pub opened : IsOpened g r
  pub found : g.is_honest r → finds (g.rows r)

-- the registry stays if no fault of its store was counted; otherwise it is opened again
abbrev pub IsMended : {R : Type 0} → Ghosts R → (finds : List StoredRecord → Type 0) → (old new : R) → Type 0
IsMended g finds old new = ((g.faults old ≡ 0) × (new ≡ old)) ⊎ ((0 < g.faults old) × IsOpenedAt g finds new)

-- ---- files

-- these files were connected to, and the tables of that connection have these rows; without tables there are none
pub record FindsRows {D : Type 0} (g : disk.Ghosts D) (files : Files D) (rows : List StoredRecord) : Type 0 where
  pub conn : Held (FileStore D g)
  pub connected : IsConnected conn
  pub found : Finds files conn
  pub stands : Stands (file_state conn) rows

-- a connection to these files was refused, and its last commit is what they held
pub record KeepsRows {D : Type 0} {g : disk.Ghosts D} (files : Files D) (left : Held (FileStore D g)) : Type 0 where
  pub conn : Held (FileStore D g)
  pub found : Finds files conn
  pub kept : LeavesStore (file_state conn) (file_state left)
  pub stop : Survives (file_state conn) (file_state left) LeavesNone

-- what is left of files that were refused: a connection, or why there is none, and what became of the files
abbrev pub LeavesRows : {D : Type 0} {g : disk.Ghosts D}
    → Files D → Result (Held (FileStore D g)) (Error × Leftover D g) → Type 0
LeavesRows files (Ok left) = HasCleanDisk (file_state left) → KeepsRows files left
LeavesRows files (Err refused) = IsCleanLeft refused.1 → LeavesFiles files refused.1
