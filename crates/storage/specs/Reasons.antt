-- The fault of an opening, by the reason why a database file can't be used.
use Rattle.std.specs.Prelude.{Bool, true, false, if◌then◌else◌}
use Rattle.std.specs.IoError.{error_kind}
use Rattle.std.specs.declared.io.ErrorKind.{ErrorKind}
use Rattle.std.specs.declared.io.ErrorKind.TheVariants as io
use Rattle.sqlite.specs.declared.error.ErrorCode.TheVariants as code
use Rattle.sqlite_std_file.specs.declared.pair.OpenError.TheVariants as opening
use Rattle.provider_store.specs.declared.opening.RegistryOpenFault.{RegistryOpenFault}
use Rattle.provider_store.specs.declared.opening.RegistryOpenFault.TheVariants as registry
use Rattle.journal_store.specs.declared.opening.JournalOpenFault.{JournalOpenFault}
use Rattle.journal_store.specs.declared.opening.JournalOpenFault.TheVariants as journal
use Rattle.storage.specs.declared.reason.DatabaseReason.{DatabaseReason}
use Rattle.storage.specs.declared.reason.DatabaseReason.TheVariants.{Parted, System, Unopened, Failed}

abbrev pub is_memory : ErrorKind → Bool
is_memory io.OutOfMemory = true
is_memory _ = false

abbrev pub is_out_of_memory : DatabaseReason → Bool
is_out_of_memory (Failed code.OutOfMemory) = true
is_out_of_memory (Unopened opening.OutOfMemory) = true
is_out_of_memory (Unopened (opening.Io error)) = is_memory (error_kind error)
is_out_of_memory (System error) = is_memory (error_kind error)
is_out_of_memory _ = false

-- changes without their file are damage
abbrev pub registry_fault : DatabaseReason → RegistryOpenFault
registry_fault Parted = registry.Damaged 0
registry_fault why = if is_out_of_memory why then registry.Memory else registry.Store

abbrev pub journal_fault : DatabaseReason → JournalOpenFault
journal_fault Parted = journal.Damaged
journal_fault why = if is_out_of_memory why then journal.Memory else journal.Store
