-- Files whose failures are kept at a place.
use Rattle.sqlite_disk.specs.declared.Files.{Files}
use Rattle.storage.specs.declared.noted_disk.NotedDisk.{NotedDisk}

-- the files alone
abbrev pub bare : {D : Type 0} → Files (NotedDisk D) → Files D
bare files = record { log = files.log.inner; db = files.db.inner }
