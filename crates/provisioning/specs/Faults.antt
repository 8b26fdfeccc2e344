-- Which faults are a record's, and which end a run.
use Rattle.std.specs.Prelude.{Option, Some, Result, Ok, Err}
use Rattle.std.specs.IoError.{error_kind}
use Rattle.std.specs.declared.io.Error.{Error}
use Rattle.std.specs.declared.io.ErrorKind.{ErrorKind}
use Rattle.std.specs.declared.io.ErrorKind.TheVariants as kinds
use Rattle.scim_client.specs.declared.answers.AnswerFault.TheVariants as answers
use Rattle.scim_client.specs.declared.exchange.ExchangeFault.{ExchangeFault}
use Rattle.scim_client.specs.declared.exchange.ExchangeFault.TheVariants.{Unsent, EndedEarly, ReadFailed, OutOfMemory, TurnsExhausted, NoAnswer}
use Rattle.connector_core.specs.declared.learning.LearnFault.{LearnFault}
use Rattle.connector_core.specs.declared.learning.LearnFault.TheVariants as learning
use Rattle.connector_core.specs.declared.opening.ConnectorOpenFault.{ConnectorOpenFault}
use Rattle.connector_core.specs.declared.opening.ConnectorOpenFault.TheVariants as opening
use Rattle.provisioning.specs.declared.faults.RunFault.{RunFault}
use Rattle.provisioning.specs.declared.faults.RunFault.TheVariants.{Connection, Journal, Memory}
use Rattle.provisioning.specs.declared.faults.RecordFault.{RecordFault}
use Rattle.provisioning.specs.declared.faults.RecordFault.TheVariants.{Unanswered, Unfit, Unversioned, Refused, NoSuchRecord}

-- the fault of a connector that couldn't be opened
abbrev pub unopened : ConnectorOpenFault → RunFault
unopened opening.Store = Journal
unopened opening.Memory = Memory

-- the fault for a failed call of the system
abbrev pub failed : ErrorKind → (otherwise : RunFault) → RunFault
failed kinds.OutOfMemory otherwise = Memory
failed _ otherwise = otherwise

-- the fault of a stream that couldn't be opened
abbrev pub open_fault : Error → RunFault
open_fault error = failed (error_kind error) (Connection error)

-- The fault of an exchange without an answer. Out of memory ends the run
abbrev pub unanswered : ExchangeFault → Result (Option RecordFault) RunFault
unanswered (Unsent fault) = Ok (Some (Unanswered (Unsent fault)))
unanswered EndedEarly = Ok (Some (Unanswered EndedEarly))
unanswered ReadFailed = Ok (Some (Unanswered ReadFailed))
unanswered OutOfMemory = Err Memory
unanswered TurnsExhausted = Ok (Some (Unanswered TurnsExhausted))
unanswered (NoAnswer answers.NotOneResponse) = Ok (Some (Unanswered (NoAnswer answers.NotOneResponse)))
unanswered (NoAnswer answers.NotJson) = Ok (Some (Unanswered (NoAnswer answers.NotJson)))
unanswered (NoAnswer answers.WrongShape) = Ok (Some (Unanswered (NoAnswer answers.WrongShape)))
unanswered (NoAnswer answers.OutOfMemory) = Err Memory

-- The fault of an answer that teaches nothing. A fault of the journal, or out of memory, ends the run
abbrev pub unlearnt : LearnFault → Result (Option RecordFault) RunFault
unlearnt learning.Unfit = Ok (Some Unfit)
unlearnt learning.Unversioned = Ok (Some Unversioned)
unlearnt (learning.Refused status) = Ok (Some (Refused status))
unlearnt learning.NoSuchRecord = Ok (Some NoSuchRecord)
unlearnt learning.Store = Err Journal
unlearnt learning.Memory = Err Memory
