-- What `loop` does over the rows and the journal that it opens, and the exit status after that.
use Rattle.std.specs.Prelude.{◌≡◌, ◌⊎◌, ◌<◌, ⊤, ℕ, List, [], Option, Some, None, Result, Ok, Err}
use Rattle.std.specs.FinMap.{empty}
use denote.Ref.{Bor}
use Rattle.std.specs.declared.io.Error.{Error}
use Rattle.clap.specs.declared.parser.matches.Found.{Found}
use Rattle.scim_resource.specs.Rows.{StoredRecord}
use Rattle.provider_core.specs.declared.registry.Registry.{Ghosts as Registries}
use Rattle.provider_store.specs.declared.opening.RegistryOpenFault.{RegistryOpenFault}
use Rattle.journal_core.specs.Entries.{EntryMap}
use Rattle.journal_core.specs.declared.journals.Journal.{Ghosts as Journals}
use Rattle.connector_core.specs.State.{State}
use Rattle.storage.specs.StoreOpened.{IsOpenedAt}
use Rattle.provisioning.specs.declared.carrying.Outcome.{Outcome}
use Rattle.provisioning.specs.declared.sources.Sources.{Sources}
use Rattle.commands.specs.Causes.{concluded}
use Rattle.commands.specs.Loops.{Loops}
use Rattle.commands.specs.Running.{IsJob, ReadsFiles, RunsOver}
use Rattle.commands.specs.Statuses.{run_status, store_fault}
use Rattle.commands.specs.declared.jobs.Job.{Job}
use Rattle.commands.specs.declared.looping.faults.LoopFault.{LoopFault}
use Rattle.commands.specs.declared.status.CommandFault.{CommandFault}
use Rattle.commands.specs.declared.status.Status.{Status}

-- rows were opened, a provider over them was there for this run, and they were closed; or they couldn't be opened
abbrev pub RunsWith : {R L : Type 0} → Registries R → (finds : List StoredRecord → Type 0)
    → (is_closed : R → L → Type 0) → (runs : (has_failed : Type 0) → Result Status CommandFault → Type 0)
    → Result Status CommandFault → Type 0
RunsWith {R} {L} g finds is_closed runs ended =
    ((first last : R) × (left : L) × IsOpenedAt g finds first × runs (0 < g.faults last) ended × is_closed last left)
    ⊎ ((cause : RegistryOpenFault) × (ended ≡ Err (store_fault cause)))

-- rows in memory, and a journal in memory: at first there are none
abbrev pub IsEmpty : List StoredRecord → Type 0
IsEmpty rows = rows ≡ []

abbrev pub HasNone : EntryMap → Type 0
HasNone entries = entries ≡ empty

-- memory needs no closing
abbrev pub IsDropped : {T : Type 0} → T → Unit {0} → Type 0
IsDropped kept left = ⊤

module _ {I O J : Type 0} (remaining : I → Option (List ℕ)) (contents : O → Option (List ℕ)) (g : Journals J) where
  -- The records of these sources were carried to a provider in the same program, whose store failed if `has_failed`
  -- says so; the status is that of this run, or its fault with the system's error
  abbrev pub LoopsTo : (base : List ℕ) → Sources → (old new : State J) → (has_failed : Type 0) → (last : Option Error)
      → Result Status CommandFault → Type 0
  LoopsTo base sources old new has_failed last ended =
      (looped : Result Outcome LoopFault) × Loops remaining contents g base sources old new has_failed looped
      × (ended ≡ concluded last (run_status looped))

  -- The files of a job were read, and their records carried; or a file couldn't be read, or memory ran out, and the
  -- connector is as it was
  abbrev pub LoopsFrom : Job → (has_failed : Type 0) → (old new : State J) → Result Status CommandFault → Type 0
  LoopsFrom job has_failed old new ended =
      ((sources : Sources) × (last : Option Error) × ReadsFiles None job (Ok sources)
      × LoopsTo job.service sources old new has_failed last ended)
      ⊎ ((why : CommandFault) × (ended ≡ Err why) × (new ≡ old))

  -- from a journal that was opened for it, and closed
  abbrev pub LoopsOver : {L : Type 0} → (finds : EntryMap → Type 0) → (is_closed : J → L → Type 0) → Job
      → (has_failed : Type 0) → Result Status CommandFault → Type 0
  LoopsOver finds is_closed job has_failed ended = RunsOver g finds is_closed (LoopsFrom job has_failed) ended

module _ {I O J M H L : Type 0} (remaining : I → Option (List ℕ)) (contents : O → Option (List ℕ))
    (g : Journals J) (finds : H → EntryMap → Type 0) (is_closed : J → L → Type 0) (memory : Journals M) where
  -- from the journal that was named, or from one in memory
  abbrev pub LoopsAt : Job → Option (Bor H) → (has_failed : Type 0) → Result Status CommandFault → Type 0
  LoopsAt job (Some journal) has_failed ended =
      LoopsOver remaining contents g (finds journal.now) is_closed job has_failed ended
  LoopsAt job None has_failed ended = LoopsOver remaining contents memory HasNone IsDropped job has_failed ended

module _ {I K O R L F : Type 0} (remaining : I → Option (List ℕ)) (memory_remaining : K → Option (List ℕ))
    (contents : O → Option (List ℕ)) (rows : Registries R) (finds : F → List StoredRecord → Type 0)
    (is_closed : R → L → Type 0) where
  module _ {S J M H E : Type 0} (memory_rows : Registries S) (g : Journals J) (holds : H → EntryMap → Type 0)
      (is_left : J → E → Type 0) (memory : Journals M) where
    -- to the rows that were named, or to those of a provider in memory that starts empty
    abbrev pub LoopsWith : Job → (store : Option (Bor F)) → (journal : Option (Bor H)) → Result Status CommandFault
        → Type 0
    LoopsWith job (Some store) journal ended =
        RunsWith rows (finds store.now) is_closed (LoopsAt remaining contents g holds is_left memory job journal) ended
    LoopsWith job None journal ended =
        RunsWith memory_rows IsEmpty IsDropped
        (LoopsAt memory_remaining contents g holds is_left memory job journal) ended

    -- of what the arguments name
    abbrev pub IsLooped : Found → (store : Option (Bor F)) → (journal : Option (Bor H)) → Status → Type 0
    IsLooped found store journal status =
        (job : Job) × IsJob found job × LoopsWith job store journal (Ok status)
