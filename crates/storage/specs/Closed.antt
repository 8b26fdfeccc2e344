-- What a store in files leaves when it is closed, and when its files are connected to anew.
use Rattle.std.specs.Prelude.{◌≡◌, Result, IfOk, IfErr, IsTrue}
use Rattle.sqlite_disk.specs.declared.Disk.{Ghosts}
use Rattle.sqlite_disk.specs.declared.Files.{Files}
use Rattle.sqlite_trees.specs.View.{IsClean}
use Rattle.sqlite_wal.specs.Reads.{AreClean}
use Rattle.sqlite_store.specs.declared.store.FileStore.{FileStore}
use Rattle.sqlite_store.specs.FileStore.{view}
use Rattle.sqlite.specs.declared.error.Error.{Error}
use Rattle.sqlite.specs.Closing.{IsCopied}
use Rattle.sqlite.specs.Files.{FailsToClose, IsClosed, IsOpened as IsConnected, file_state}
use Rattle.sqlite.specs.Held.{Held}
use Rattle.sqlite.specs.State.{HasCleanDisk}

-- If the disks returned what was written, the last commit is in the main file alone, or the library said why it
-- couldn't be copied there
pub record ClosesFiles {D : Type 0} (g : Ghosts D) (conn : Held (FileStore D g))
    (left : Result (Files D) (Error × FileStore D g)) : Type 0 where
  pub copied : IfOk left (λ files. AreClean g files.log files.db → IsCopied conn files)
  pub err : IfErr left (λ e. IsClosed conn e.1 × (IsClean (view e.1) → FailsToClose conn e.1 e.0))

-- a connection was closed, and its files are connected to anew: the last commit is the same
pub record IsRenewed {D : Type 0} {g : Ghosts D} (old new : Held (FileStore D g)) : Type 0 where
  pub was_clean : HasCleanDisk (file_state old)
  pub was_open : IsTrue (file_state old).is_open
  pub connected : IsConnected new
  pub same : (file_state new).committed.trees ≡ (file_state old).committed.trees
