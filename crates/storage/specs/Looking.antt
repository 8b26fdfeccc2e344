-- A journal in files that was looked at.
use Rattle.std.specs.Prelude.{◌≡◌, ⊤, Option, Some, None, Result, Ok, Err}
use Rattle.sqlite_disk.specs.declared.Disk as disk
use Rattle.sqlite_disk.specs.declared.Files.{Files}
use Rattle.sqlite_store.specs.declared.store.FileStore.{FileStore}
use Rattle.sqlite_trees.specs.declared.store.Store as store
use Rattle.sqlite.specs.declared.error.Error.{Error}
use Rattle.sqlite.specs.declared.file.Leftover.{Leftover}
use Rattle.sqlite.specs.Files.{Finds, file_state}
use Rattle.sqlite.specs.Held.{Held, state}
use Rattle.sqlite.specs.State.{HasCleanDisk, Survives}
use Rattle.journal_store.specs.Kept.{Kept}
use Rattle.journal_store.specs.Opening.{IsOlder}
use Rattle.sql_tables.specs.Layouts.{no_schema}
use Rattle.storage.specs.JournalOpened.{KeepsTables}
use Rattle.storage.specs.declared.looking.LookFault.{LookFault}
use Rattle.storage.specs.declared.looking.LookFault.TheVariants.{Older, Refused}

module _ {S : Type 0} (g : store.Ghosts S) where
  -- a connection has no journal that can be looked at: it has no tables, or those of an older format, and is unchanged,
  -- or its tables were refused
  abbrev pub IsUnseen : (before after : Held S) → Option LookFault → Type 0
  IsUnseen before after None = (after ≡ before) × ((state g before).now.schema ≡ no_schema)
  IsUnseen before after (Some Older) = (after ≡ before) × IsOlder (state g before).now.schema
  IsUnseen before after (Some (Refused fault)) = KeepsTables (state g before) (state g after)

-- these files were connected to, and they have no tables
pub record FindsNoTables {D : Type 0} (g : disk.Ghosts D) (files : Files D) : Type 0 where
  pub conn : Held (FileStore D g)
  pub found : HasCleanDisk (file_state conn) → Finds files conn
  pub none : (file_state conn).now.schema ≡ no_schema

module _ {D : Type 0} {g : disk.Ghosts D} where
  -- these files were connected to, and a stop leaves what they held
  pub record LeavesAsFound (files : Files D) (now : Held (FileStore D g)) : Type 0 where
    pub conn : Held (FileStore D g)
    pub found : HasCleanDisk (file_state conn) → Finds files conn
    pub stop : Survives (file_state conn) (file_state now) (λ _. ⊥)

  -- nothing was written: the files have no tables, or a stop leaves what they held
  abbrev pub LooksAt : Files D → Option (Kept (FileStore D g)) → Type 0
  LooksAt files None = FindsNoTables g files
  LooksAt files (Some journal) = LeavesAsFound files journal.conn

  -- if an older format is the fault, the files have its tables
  abbrev pub LooksOlder : Files D → LookFault → Result (Held (FileStore D g)) (Error × Leftover D g) → Type 0
  LooksOlder files Older (Ok left) = HasCleanDisk (file_state left) → Finds files left
      × IsOlder (file_state left).now.schema
  LooksOlder files Older (Err refused) = ⊥
  LooksOlder files (Refused fault) left = ⊤
