-- The exit status of a run, and what leads to it.
use Rattle.std.specs.Prelude.{ℕ, Bool, true, false, List, Result, Ok, Err, is_ok, if◌then◌else◌, ◌&&◌}
use Rattle.std.specs.List.{list_all}
use Rattle.std.specs.IoError.{error_kind}
use Rattle.std.specs.declared.io.Error.{Error}
use Rattle.std.specs.declared.io.ErrorKind.{ErrorKind as IoErrorKind}
use Rattle.std.specs.declared.io.ErrorKind.TheVariants as io
use Rattle.clap.specs.declared.error.kind.ErrorKind.{ErrorKind}
use Rattle.clap.specs.declared.error.kind.ErrorKind.TheVariants as kind
use Rattle.scim_key.specs.declared.names.NameFault.{NameFault}
use Rattle.scim_key.specs.declared.names.NameFault.TheVariants as name
use Rattle.scim_key.specs.Revisions.{same_revision}
use Rattle.provider_store.specs.declared.opening.RegistryOpenFault.{RegistryOpenFault}
use Rattle.provider_store.specs.declared.opening.RegistryOpenFault.TheVariants as opening
use Rattle.source_csv.specs.declared.faults.RowFault.{RowFault}
use Rattle.source_csv.specs.declared.faults.SourceFault.{SourceFault}
use Rattle.source_csv.specs.declared.faults.SourceFault.TheVariants as source
use Rattle.source_csv.specs.declared.rows.Row.{Row}
use Rattle.source_csv.specs.declared.streams.ReadFault.{ReadFault}
use Rattle.source_csv.specs.declared.streams.ReadFault.TheVariants as read
use Rattle.mapping.specs.declared.lines.WriteFault.{WriteFault}
use Rattle.mapping.specs.declared.lines.WriteFault.TheVariants as write
use Rattle.journal_store.specs.declared.opening.JournalOpenFault.{JournalOpenFault}
use Rattle.journal_store.specs.declared.opening.JournalOpenFault.TheVariants as journal
use Rattle.world_sim.specs.declared.following.TellingFault.{TellingFault}
use Rattle.world_sim.specs.declared.following.TellingFault.TheVariants as telling
use Rattle.world_sim.specs.declared.reports.Report.{Report}
use Rattle.world_sim.specs.declared.reports.Report.TheVariants as report
use Rattle.world_sim.specs.declared.reports.WorldFault.{WorldFault}
use Rattle.world_sim.specs.declared.reports.WorldFault.TheVariants as world
use Rattle.world_sim.specs.declared.schedules.ScheduleFault.{ScheduleFault}
use Rattle.world_sim.specs.declared.schedules.ScheduleFault.TheVariants as schedule
use Rattle.world_sim.specs.declared.several.TurnReport.{TurnReport}
use Rattle.world_sim.specs.declared.views.View.{View}
use Rattle.connection.specs.declared.answering.Served.{Served}
use Rattle.connection.specs.declared.answering.Served.TheVariants.{Answered, NoRequest, Lost}
use Rattle.connection.specs.declared.serving.ConnectionFault.{ConnectionFault}
use Rattle.storage.specs.declared.looking.LookFault.{LookFault}
use Rattle.storage.specs.declared.looking.LookFault.TheVariants as look
use Rattle.journal_store.specs.declared.scopes.ResetResult.{ResetResult}
use Rattle.journal_store.specs.declared.scopes.ResetResult.TheVariants as reset
use Rattle.storage.specs.declared.show_fault.ShowFault.{ShowFault}
use Rattle.storage.specs.declared.show_fault.ShowFault.TheVariants as show
use Rattle.provisioning.specs.Carrying.{is_done}
use Rattle.provisioning.specs.declared.carrying.Outcome.{Outcome}
use Rattle.commands.specs.declared.looping.faults.LoopFault.{LoopFault}
use Rattle.commands.specs.declared.looping.faults.LoopFault.TheVariants as looping
use Rattle.provisioning.specs.declared.faults.RunFault.{RunFault}
use Rattle.commands.specs.declared.status.CommandFault.{CommandFault}
use Rattle.commands.specs.declared.status.CommandFault.TheVariants as fault
use Rattle.commands.specs.declared.status.Part.{Part}
use Rattle.commands.specs.declared.status.Part.TheVariants as parts
use Rattle.commands.specs.declared.status.Status.{Status}
use Rattle.commands.specs.declared.status.Status.TheVariants.{Done, Refused, Usage, Fault}

abbrev pub status_code : Status → ℕ
status_code Done = 0
status_code Refused = 1
status_code Usage = 2
status_code Fault = 3

-- the exit status of a run that a fault ended
abbrev pub fault_status : CommandFault → Status
fault_status fault.Words = Usage
fault_status fault.Subcommand = Usage
fault_status fault.Base = Usage
fault_status fault.Path = Usage
fault_status fault.Listen = Usage
fault_status fault.To = Usage
fault_status fault.Requests = Usage
fault_status fault.LongestSearch = Usage
fault_status fault.MostLeavers = Usage
fault_status fault.Streams = Usage
fault_status fault.GiveUpAfter = Usage
fault_status fault.SettleTime = Usage
fault_status fault.Column = Usage
fault_status fault.Separator = Usage
fault_status fault.ProviderKeeps = Usage
fault_status fault.Show = Usage
fault_status (fault.Events why) = Usage
fault_status (fault.Users source.Header) = Refused
fault_status (fault.Users source.Memory) = Fault
fault_status (fault.Schedule (schedule.Line number)) = Refused
fault_status (fault.Schedule schedule.Memory) = Fault
fault_status fault.Store = Fault
fault_status (fault.StoreFile why) = Fault
fault_status (fault.JournalFile why) = Fault
fault_status fault.OlderJournal = Fault
fault_status fault.File = Fault
fault_status (fault.Unread part error) = Fault
fault_status (fault.Missing part) = Fault
fault_status (fault.Output error) = Fault
fault_status (fault.Connection why) = Fault
fault_status (fault.Unopened error) = Fault
fault_status (fault.Run why) = Fault
fault_status fault.Memory = Fault

-- The exit status after the argument parser printed something instead of choosing a command: help and the version are a
-- success, unless they couldn't be printed
abbrev pub words_status : ErrorKind → (is_printed : Bool) → Status
words_status kind.OutOfMemory printed = Fault
words_status kind.DisplayHelp true = Done
words_status kind.DisplayHelp false = Fault
words_status kind.DisplayVersion true = Done
words_status kind.DisplayVersion false = Fault
words_status other printed = Usage

-- the fault for a failed call of the system: out of memory, or this fault
abbrev pub unless_memory : IoErrorKind → (otherwise : CommandFault) → CommandFault
unless_memory io.OutOfMemory otherwise = fault.Memory
unless_memory _ otherwise = otherwise

-- the fault of a file that can't be read
abbrev pub unread_fault : Part → Error → CommandFault
unread_fault part error = unless_memory (error_kind error) (fault.Unread part error)

-- the fault of arguments that can't be read
abbrev pub words_fault : IoErrorKind → CommandFault
words_fault kind = unless_memory kind fault.Words

-- the fault of a text that can't be read: out of memory, or this one
abbrev pub text_fault : NameFault → (wrong : CommandFault) → CommandFault
text_fault name.Memory wrong = fault.Memory
text_fault other wrong = wrong

-- the fault of a base that can't be read
abbrev pub base_fault : NameFault → CommandFault
base_fault why = text_fault why fault.Base

-- a connection is done if a response was written whole
abbrev pub served_status : Served → Result Status CommandFault
served_status (Answered status) = Ok Done
served_status (NoRequest why) = Err (fault.Connection (record {}))
served_status (Lost status) = Err (fault.Connection (record {}))

-- the fault of a file of rows that couldn't be opened, or failed
abbrev pub store_fault : RegistryOpenFault → CommandFault
store_fault opening.Memory = fault.Memory
store_fault why = fault.StoreFile why

-- the fault of a file of a journal that couldn't be opened, or failed
abbrev pub journal_fault : JournalOpenFault → CommandFault
journal_fault journal.Memory = fault.Memory
journal_fault why = fault.JournalFile why

-- the fault of a journal that couldn't be looked at
abbrev pub look_fault : LookFault → CommandFault
look_fault look.Older = fault.OlderJournal
look_fault (look.Refused why) = journal_fault why

-- the fault of rows or entries that couldn't be shown whole
abbrev pub show_fault : ShowFault → CommandFault
show_fault (show.Store why) = store_fault why
show_fault (show.Journal why) = journal_fault why
show_fault show.NoStore = fault.Missing parts.Store
show_fault show.NoJournal = fault.Missing parts.Journal
show_fault show.Memory = fault.Memory
show_fault show.Output = fault.File

-- the exit status after connections whose faults were reported
abbrev pub outcome_status : Result (Unit {0}) ConnectionFault → Status
outcome_status (Ok done) = Done
outcome_status (Err why) = Fault

-- the fault of a file of users that gives no rows
abbrev pub users_fault : SourceFault → CommandFault
users_fault source.Header = fault.Users source.Header
users_fault source.Memory = fault.Memory

-- the fault of a file of users that isn't read to its end
abbrev pub file_fault : ReadFault → CommandFault
file_fault (read.Source why) = users_fault why
file_fault (read.Input error) = unread_fault parts.File error

-- the fault of lines that couldn't be written whole
abbrev pub lines_fault : WriteFault → CommandFault
lines_fault write.Memory = fault.Memory
lines_fault write.Output = fault.File

-- every record was read as a row
abbrev pub are_rows : List (Result Row RowFault) → Bool
are_rows records = list_all is_ok records

-- everything is done if no record of a file is rejected
abbrev pub status_of_rows : Bool → Status
status_of_rows all_rows = if all_rows then Done else Refused

abbrev pub records_status : List (Result Row RowFault) → Status
records_status records = status_of_rows (are_rows records)

-- the fault of a schedule that gives no events
abbrev pub schedule_fault : ScheduleFault → CommandFault
schedule_fault (schedule.Line number) = fault.Schedule (schedule.Line number)
schedule_fault schedule.Memory = fault.Memory

-- the fault of a world that couldn't go on
abbrev pub world_fault : WorldFault → CommandFault
world_fault world.Memory = fault.Memory
world_fault world.Store = fault.Store

-- the fault of a run whose lines are printed
abbrev pub telling_fault : TellingFault Error → CommandFault
telling_fault (telling.World why) = world_fault why
telling_fault (telling.Untold error) = unless_memory (error_kind error) (fault.Output error)

-- an event that isn't a row which the connector refuses
abbrev pub is_taken : Report → Bool
is_taken (report.Judged (Err why)) = false
is_taken other = true

-- a record whose wanted revision is confirmed
abbrev pub is_confirmed : View → Bool
is_confirmed view = same_revision view.confirmed view.wanted

-- everything is done if no row was refused and every record is confirmed at the end
abbrev pub simulated_status : List Report → List View → Status
simulated_status reports views = if list_all is_taken reports && list_all is_confirmed views then Done else Refused

-- the same for the turns of several connectors, by whether every record of each is confirmed
abbrev pub several_status : List TurnReport → (confirmed : Bool) → Status
several_status reports confirmed =
    if list_all (λ said. is_taken said.report) reports && confirmed then Done else Refused

-- the fault of a run with its own provider
abbrev pub loop_fault : LoopFault → CommandFault
loop_fault (looping.Ended why) = fault.Run why
loop_fault looping.Store = fault.StoreFile opening.Store

-- a run of the connector is done if nothing was refused and every record is confirmed
abbrev pub carried_status : Outcome → Status
carried_status outcome = if is_done outcome then Done else Refused

-- the exit status of a `push`
abbrev pub pushed_status : Result Outcome RunFault → Result Status CommandFault
pushed_status (Ok outcome) = Ok (carried_status outcome)
pushed_status (Err why) = Err (fault.Run why)

-- the exit status of a `show`
abbrev pub shown_status : Result (Unit {0}) ShowFault → Result Status CommandFault
shown_status (Ok done) = Ok Done
shown_status (Err why) = Err (show_fault why)

-- the exit status of a `reset`
abbrev pub reset_status : Result ResetResult ShowFault → Result Status CommandFault
reset_status (Ok (reset.Changed count)) = Ok Done
reset_status (Ok (reset.Absent name)) = Ok Refused
reset_status (Err why) = Err (show_fault why)

-- the exit status of a `loop`
abbrev pub run_status : Result Outcome LoopFault → Result Status CommandFault
run_status (Ok outcome) = Ok (carried_status outcome)
run_status (Err why) = Err (loop_fault why)
