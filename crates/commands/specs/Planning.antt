-- A push that is only planned, and what `push` does by its arguments.
use Rattle.std.specs.Prelude.{◌≡◌, ◌⊎◌, ◌&&◌, ℕ, Bool, true, false, not, List, [], Option, Some, None, Result, Ok, Err, if◌then◌else◌}
use denote.Ref.{Bor}
use Rattle.std.specs.declared.io.Error.{Error}
use Rattle.clap.specs.declared.parser.matches.Found.{Found}
use Rattle.journal_core.specs.Calls.{Reads}
use Rattle.journal_core.specs.Entries.{EntryMap, IsListOf}
use Rattle.journal_core.specs.Memory.{MemoryRecord}
use Rattle.journal_core.specs.declared.entries.Entry.{Entry}
use Rattle.journal_core.specs.Stores.{CountsFault}
use Rattle.journal_core.specs.declared.journals.Journal.{Ghosts as Journals}
use Rattle.scim_key.specs.declared.stores.StoreFault.{StoreFault}
use Rattle.connector_core.specs.State.{State}
use Rattle.storage.specs.JournalOpened.{IsOpenedAt}
use Rattle.provisioning.specs.DryRuns.{IsOver}
use Rattle.provisioning.specs.Plans.{Plans}
use Rattle.provisioning.specs.declared.faults.RunFault.{RunFault}
use Rattle.provisioning.specs.declared.planning.Plan.{Plan}
use Rattle.provisioning.specs.declared.sources.Sources.{Sources}
use Rattle.commands.specs.Causes.{concluded}
use Rattle.commands.specs.Limits.{PushesOver, is_excess}
use Rattle.commands.specs.Manners.{IsManner}
use Rattle.commands.specs.Running.{IsJob, ReadsFiles, numbering_of}
use Rattle.commands.specs.declared.jobs.Job.{Job}
use Rattle.commands.specs.declared.manners.Manner.{Manner}
use Rattle.commands.specs.declared.status.CommandFault.{CommandFault}
use Rattle.commands.specs.declared.status.CommandFault.TheVariants as fault
use Rattle.commands.specs.declared.status.Status.{Status}
use Rattle.commands.specs.declared.status.Status.TheVariants.{Done, Refused}

-- ---- the exit status

abbrev pub plan_status : (most : Option ℕ) → Plan → Status
plan_status most plan = if plan.is_taken && not (is_excess plan.leavers most) then Done else Refused

abbrev pub planned_status : (most : Option ℕ) → Result Plan RunFault → Result Status CommandFault
planned_status most (Ok plan) = Ok (plan_status most plan)
planned_status most (Err why) = Err (fault.Run why)

-- ---- the journal

-- a journal was only read, and closed; these are its entries
abbrev pub IsReadFrom : {J L : Type 0} → Journals J → (is_closed : J → L → Type 0) → (first : J) → List Entry → Type 0
IsReadFrom {J} {L} g is_closed first list =
    (last : J) × (left : L) × Reads {T = List Entry} {F = StoreFault} g CountsFault first last (Ok list)
    × (g.is_faithful last → IsListOf (g.entries first) list) × is_closed last left

-- the journal was looked at; or there is none, and no entry
abbrev pub IsLookedAt : {J L : Type 0} → Journals J → (finds : EntryMap → Type 0) → (is_closed : J → L → Type 0)
    → List Entry → Type 0
IsLookedAt {J} g finds is_closed list =
    ((first : J) × IsOpenedAt g finds first × IsReadFrom g is_closed first list) ⊎ (list ≡ [])

-- ---- a plan

-- what a push of these sources by a connector would ask for was written; or this fault ended it
abbrev pub PlansTo : {J : Type 0} → Journals J → (most : Option ℕ) → Sources → (old new : State J)
    → (before after : Option (List ℕ)) → (last : Option Error) → Result Status CommandFault → Type 0
PlansTo g most sources old new before after last ended =
    (plan : Result Plan RunFault) × Plans g sources old new None None before after plan
    × (ended ≡ concluded last (planned_status most plan))

-- the files of a job were read, as snapshots numbered by this connector if they are some, and planned
abbrev pub PlansFrom : Journals MemoryRecord → (most : Option ℕ) → Job → (old new : State MemoryRecord) → Status
    → Type 0
PlansFrom h most job old new status =
    (sources : Sources) × (before after : Option (List ℕ)) × (last : Option Error)
    × ReadsFiles (numbering_of job old.book) job (Ok sources)
    × PlansTo h most sources old new before after last (Ok status)

-- a connector was opened over a copy of the entries, and planned the files
pub record PlansOver {J L : Type 0} (g : Journals J) (h : Journals MemoryRecord) (finds : EntryMap → Type 0)
    (is_closed : J → L → Type 0) (most : Option ℕ) (job : Job) (status : Status) : Type 0 where
  pub list : List Entry
  pub start : State MemoryRecord
  pub end : State MemoryRecord
  pub looks : IsLookedAt g finds is_closed list
  pub opened : IsOver list start.book
  pub plans : PlansFrom h most job start end status

-- the same of what the arguments name
abbrev pub IsPlanned : {J L : Type 0} → Journals J → Journals MemoryRecord → (finds : EntryMap → Type 0)
    → (is_closed : J → L → Type 0) → (most : Option ℕ) → Found → Status → Type 0
IsPlanned g h finds is_closed most found status =
    (job : Job) × IsJob found job × PlansOver g h finds is_closed most job status

-- ---- `push`

-- the records of the job that the arguments name were carried, in this manner
abbrev pub IsPushed : {I O J L : Type 0} → (I → Option (List ℕ)) → (O → Option (List ℕ)) → Journals J
    → (finds : EntryMap → Type 0) → (is_closed : J → L → Type 0) → Manner → Found → Status → Type 0
IsPushed remaining contents g finds is_closed manner found status = (job : Job) × IsJob found job
    × PushesOver remaining contents g finds is_closed manner.delivery job manner.most_leavers (Ok status)

module _ {I O J L : Type 0} (remaining : I → Option (List ℕ)) (contents : O → Option (List ℕ)) (g : Journals J)
    (h : Journals MemoryRecord) where
  -- by whether a plan is wanted
  abbrev pub EndsAs : (planned : Bool) → (finds : EntryMap → Type 0) → (is_closed : J → L → Type 0) → Manner → Found
      → Status → Type 0
  EndsAs true finds is_closed manner found status = IsPlanned g h finds is_closed manner.most_leavers found status
  EndsAs false finds is_closed manner found status = IsPushed remaining contents g finds is_closed manner found status

  -- from the journal that was named, in the manner of the arguments
  abbrev pub IsPushedAt : {H : Type 0} → (finds : H → EntryMap → Type 0) → (is_closed : J → L → Type 0) → Found
      → Option (Bor H) → Status → Type 0
  IsPushedAt finds is_closed found (Some journal) status = (manner : Manner) × IsManner found manner
      × EndsAs manner.is_planned (finds journal.now) is_closed manner found status
  IsPushedAt finds is_closed found None status = ⊥
