-- A journal of files, or a connection to them that carried an older format over.
use Rattle.sqlite_disk.specs.declared.Disk.{Ghosts}
use Rattle.sqlite_disk.specs.declared.Files.{Files}
use Rattle.sqlite_store.specs.declared.store.FileStore.{FileStore}
use Rattle.sqlite.specs.Files.{Finds, IsOpened as IsConnected, file_state, over_files}
use Rattle.sqlite.specs.Held.{Held}
use Rattle.sqlite.specs.State.{HasCleanDisk}
use Rattle.storage.specs.JournalOpened.{Opens, OpensFiles}
use Rattle.storage.specs.declared.journal_file.Opened.{Opened}
use Rattle.storage.specs.declared.journal_file.Opened.TheVariants.{Entries, Carried}
use Rattle.storage.proofs.RenewalLemmas.{none_left}

-- what is opened from a connection to files is opened from these files
pub opens_files : {D : Type 0} {g : Ghosts D} (files : Files D) (conn : Held (FileStore D g))
    → (HasCleanDisk (file_state conn) → IsConnected conn) → (HasCleanDisk (file_state conn) → Finds files conn)
    → (opened : Opened (FileStore D g)) → Opens over_files (file_state conn) opened → OpensFiles files opened
opens_files files conn connected found (Entries journal) it = record {
  faithful = it.faithful;
  counts = it.counts;
  found = λ honest. let early = none_left it.stop.clean honest in record { conn = conn; connected = connected early; found = found early; stands = it.stands honest };
}
opens_files files conn connected found (Carried now) it = record {
  carried = it.carried;
  finds = λ clean. let early = none_left it.stop.clean clean in record { conn = conn; connected = connected early; found = found early; stands = it.stands clean };
}
