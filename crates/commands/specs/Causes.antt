-- What failed when a run ended, and the system's error.
use Rattle.std.specs.Prelude.{Option, Some, None, Result, Ok, Err}
use Rattle.std.specs.declared.io.Error.{Error}
use Rattle.scim_key.specs.declared.records.Kind.{Kind}
use Rattle.scim_key.specs.declared.records.Kind.TheVariants as kind
use Rattle.provisioning.specs.declared.faults.RunFault.TheVariants as run
use Rattle.commands.specs.declared.status.CommandFault.{CommandFault}
use Rattle.commands.specs.declared.status.CommandFault.TheVariants as fault
use Rattle.commands.specs.declared.status.Part.{Part}
use Rattle.commands.specs.declared.status.Part.TheVariants as part
use Rattle.commands.specs.declared.status.Status.{Status}

-- ---- a writer

-- the system's error of the last call that failed
abbrev pub last_error : {T : Type 0} → Result T Error → (before : Option Error) → Option Error
last_error (Ok given) before = before
last_error (Err error) before = Some error

-- the fault of a line that couldn't be written, with the system's error
abbrev pub explained : (last : Option Error) → CommandFault → CommandFault
explained (Some error) fault.File = fault.Output error
explained (Some error) (fault.Run run.Untold) = fault.Output error
explained _ why = why

-- how a run ended, its fault with the system's error
abbrev pub concluded : (last : Option Error) → Result Status CommandFault → Result Status CommandFault
concluded last (Ok status) = Ok status
concluded last (Err why) = Err (explained last why)

-- ---- a run

abbrev pub source_part : Kind → Part
source_part kind.User = part.Users
source_part kind.Group = part.Groups

-- the part of a run that failed
abbrev pub part_of : CommandFault → Option Part
part_of (fault.Unread what error) = Some what
part_of (fault.Missing what) = Some what
part_of (fault.Output error) = Some part.Output
part_of (fault.Unopened error) = Some part.Listening
part_of (fault.StoreFile why) = Some part.Store
part_of (fault.JournalFile why) = Some part.Journal
part_of (fault.Run (run.Connection error)) = Some part.Provider
part_of (fault.Run run.Journal) = Some part.Journal
part_of _ = None

-- the system's error, if the fault has it
abbrev pub error_of : CommandFault → Option Error
error_of (fault.Unread what error) = Some error
error_of (fault.Output error) = Some error
error_of (fault.Unopened error) = Some error
error_of (fault.Run (run.Connection error)) = Some error
error_of _ = None
