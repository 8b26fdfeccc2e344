-- What the commands do over the files that they open, and the exit status after that.
use Rattle.std.specs.Prelude.{◌≡◌, ◌⊎◌, ⊤, ℕ, Bool, true, false, List, Option, Some, None, Result, Ok, Err, IfOk, OnOk, codes, option_map}
use denote.Ref.{Bor}
use Rattle.std.specs.declared.io.Error.{Error}
use Rattle.clap.specs.Matches.{first_value}
use Rattle.clap.specs.declared.parser.matches.Found.{Found}
use Rattle.scim_key.specs.Outcome.{Gives}
use Rattle.journal_core.specs.Calls.{Reads}
use Rattle.journal_core.specs.Entries.{EntryMap}
use Rattle.journal_core.specs.declared.journals.Journal.{Ghosts as Journals}
use Rattle.journal_store.specs.declared.opening.JournalOpenFault.{JournalOpenFault}
use Rattle.journal_store.specs.declared.scopes.ResetResult.{ResetResult}
use Rattle.journal_store.specs.declared.scopes.Scope.{Scope}
use Rattle.scim_resource.specs.Rows.{StoredRecord}
use Rattle.provider_core.specs.declared.registry.Registry.{Ghosts as Registries}
use Rattle.connector_core.specs.Maps.{BookMap}
use Rattle.connector_core.specs.State.{CountsOpenFault, IsKept, IsOpened as IsBookOf, LeavesBook, State}
use Rattle.connector_core.specs.declared.opening.ConnectorOpenFault.{ConnectorOpenFault}
use Rattle.storage.specs.JournalOpened.{IsOpenedAt}
use Rattle.storage.specs.JournalShowing.{ShowsFrom as ShowsEntries}
use Rattle.storage.specs.Resetting.{ResetsFrom}
use Rattle.storage.specs.StoreShowing.{ShowsFrom as ShowsRows}
use Rattle.storage.specs.declared.show_fault.ShowFault.{ShowFault}
use Rattle.provisioning.specs.Carrying.{CarriesSilentlyAt}
use Rattle.provisioning.specs.Faults.{unopened}
use Rattle.provisioning.specs.Quiet.{CarriesQuietly}
use Rattle.provisioning.specs.Reading.{ReadsSources}
use Rattle.provisioning.specs.Today.{Numbering}
use Rattle.provisioning.specs.declared.carrying.Outcome.{Outcome}
use Rattle.provisioning.specs.declared.faults.RunFault.{RunFault}
use Rattle.provisioning.specs.declared.paces.Pace.{Pace}
use Rattle.provisioning.specs.declared.sources.Sources.{Sources}
use Rattle.provisioning.specs.declared.sources.UnreadFile.{UnreadFile}
use Rattle.provisioning.specs.Services.{Service, service_at}
use Rattle.commands.specs.Addresses.{text_in}
use Rattle.commands.specs.Causes.{concluded, source_part}
use Rattle.commands.specs.Layouts.{GivesLayouts}
use Rattle.commands.specs.Scopes.{IsScope, are_records}
use Rattle.commands.specs.Statuses.{journal_fault, pushed_status, reset_status, shown_status, unread_fault}
use Rattle.commands.specs.Words.{wanted, wanted_service}
use Rattle.commands.specs.declared.jobs.Job.{Job}
use Rattle.commands.specs.declared.manners.Delivery.{Delivery}
use Rattle.commands.specs.declared.status.CommandFault.{CommandFault}
use Rattle.commands.specs.declared.status.CommandFault.TheVariants as fault
use Rattle.commands.specs.declared.status.Status.{Status}
use Rattle.commands.specs.declared.status.Status.TheVariants.{Done, Usage}

-- ---- `show` and `reset`

-- if the lines were written, this is true; the status, or the fault with the system's error, is that of the lines
abbrev pub EndsShowing : Type 0 → (last : Option Error) → Result Status CommandFault → Type 0
EndsShowing holds last ended = (shown : Result (Unit {0}) ShowFault) × OnOk shown holds
    × (ended ≡ concluded last (shown_status shown))

-- the same of a reset, by its answer
abbrev pub EndsResetting : (holds : ResetResult → Type 0) → (last : Option Error) → Result Status CommandFault
    → Type 0
EndsResetting holds last ended = (shown : Result ResetResult ShowFault) × IfOk shown holds
    × (ended ≡ concluded last (reset_status shown))

-- a journal was opened, and these of its records are reset; the answer gives the status
abbrev pub IsReset : {J : Type 0} → Journals J → (finds : EntryMap → Type 0) → Scope → Status → Type 0
IsReset g finds scope status = (answer : ResetResult) × ResetsFrom g finds scope answer
    × (reset_status (Ok answer) ≡ Ok status)

-- the one that was named
abbrev pub IsResetOf : {J H : Type 0} → Journals J → (finds : H → EntryMap → Type 0) → Scope
    → Option (Bor H) → Status → Type 0
IsResetOf g finds scope (Some journal) status = IsReset g (finds journal.now) scope status
IsResetOf g finds scope None status = ⊥

-- the records that these words name are reset; or a word names none, and nothing is opened
abbrev pub IsResetAt : {J H : Type 0} → Journals J → (finds : H → EntryMap → Type 0)
    → (texts : List (List ℕ)) → Option (Bor H) → Status → Type 0
IsResetAt g finds texts journal status =
    ((scope : Scope) × IsScope texts scope × IsResetOf g finds scope journal status)
    ⊎ ((status ≡ Usage) × (are_records texts ≡ false))

-- a line was written for each row of a store that was opened
abbrev pub AreRowsShown : {R : Type 0} → Registries R → (finds : List StoredRecord → Type 0) → Status → Type 0
AreRowsShown g finds status = (status ≡ Done) × ((before after : Option (List ℕ)) × ShowsRows g finds before after)

-- a line was written for each entry of a journal that was opened
abbrev pub AreEntriesShown : {J : Type 0} → Journals J → (finds : EntryMap → Type 0) → Status → Type 0
AreEntriesShown g finds status =
    (status ≡ Done) × ((before after : Option (List ℕ)) × ShowsEntries g finds before after)

-- the one that was named is shown
abbrev pub IsShown : {R J K H : Type 0} → Registries R → (K → List StoredRecord → Type 0) → Journals J
    → (H → EntryMap → Type 0) → (store : Option (Bor K)) → (journal : Option (Bor H)) → Status → Type 0
IsShown rows at entries of (Some store) None status = AreRowsShown rows (at store.now) status
IsShown rows at entries of None (Some journal) status = AreEntriesShown entries (of journal.now) status
IsShown rows at entries of _ _ status = ⊥

-- ---- what `push` and `loop` carry

-- what these arguments name: the file of users, that of groups if there is one, the service, and how the files are laid
-- out if they are snapshots
pub record IsJob (found : Found) (job : Job) : Type 0 where
  pub users : first_value found (codes "users") ≡ Some job.users.now
  pub groups : first_value found (codes "groups") ≡ text_in job.groups
  pub service : wanted_service (first_value found (codes "base")) (first_value found (codes "path")) ≡ Ok job.service
  pub layouts : GivesLayouts found (Ok job.layouts)

-- that; or the file of users isn't named, or the service is none, or the layouts are none, or memory ran out
abbrev pub GivesJob : Found → Result Job CommandFault → Type 0
GivesJob found (Ok job) = IsJob found job
GivesJob found (Err why) =
    (wanted fault.File (first_value found (codes "users")) ≡ Err why)
    ⊎ (Gives fault.Memory (Err why)
    (wanted_service (first_value found (codes "base")) (first_value found (codes "path")))
    ⊎ GivesLayouts found (Err why))

-- what numbers the files of a job, if they are snapshots: the wanted rows of this book
abbrev pub numbering_of : Job → BookMap → Option Numbering
numbering_of job book = option_map (λ layouts. record { layouts = layouts; book = book }) job.layouts

-- each source is of its own file; or one of the files couldn't be read, and this is the fault
abbrev pub ReadsJob : {R : Type 0} → (gives : R → (path : List ℕ) → Result (List ℕ) Error → Type 0) → (place : R)
    → Option Numbering → Job → Result Sources CommandFault → Type 0
ReadsJob gives place by job (Ok sources) =
    ReadsSources gives place by job.users.now (text_in job.groups) (Ok sources)
ReadsJob gives place by job (Err why) = (unread : UnreadFile)
    × ReadsSources gives place by job.users.now (text_in job.groups) (Err unread)
    × (why ≡ unread_fault (source_part unread.kind) unread.error)

-- the same of files of which no contract says what they have
abbrev pub ReadsFiles : Option Numbering → Job → Result Sources CommandFault → Type 0
ReadsFiles by job result = ReadsJob {R = Unit {0}} (λ _ _ _. ⊤) tt by job result

-- ---- the connector

-- a connector over a journal that was just opened
pub record IsStart {J : Type 0} (g : Journals J) (finds : EntryMap → Type 0) (start : State J) : Type 0 where
  pub first : J
  pub opened : IsOpenedAt g finds first
  pub reads : Reads {T = State J} {F = ConnectorOpenFault × J} g CountsOpenFault first start.journal (Ok start)
  pub book : g.is_faithful start.journal → IsBookOf (g.entries first) start.book
  pub kept : g.is_faithful start.journal → IsKept (g.entries start.journal) start.book
  pub leaves : g.is_honest start.journal → LeavesBook g start

-- the journal couldn't be opened, or read
abbrev pub IsUnopened : CommandFault → Type 0
IsUnopened why = ((cause : JournalOpenFault) × (why ≡ journal_fault cause))
    ⊎ ((cause : ConnectorOpenFault) × (why ≡ fault.Run (unopened cause)))

abbrev pub GivesConnector : {J : Type 0} → Journals J → (finds : EntryMap → Type 0) → Result (State J) CommandFault
    → Type 0
GivesConnector g finds (Ok start) = IsStart g finds start
GivesConnector g finds (Err why) = IsUnopened why

-- a journal was opened, a connector over it did this, and the journal was closed; or it couldn't be opened
abbrev pub RunsOver : {J L : Type 0} → Journals J → (finds : EntryMap → Type 0) → (is_closed : J → L → Type 0)
    → (runs : (old new : State J) → Result Status CommandFault → Type 0) → Result Status CommandFault → Type 0
RunsOver {J} {L} g finds is_closed runs ended =
    ((start end : State J) × (left : L) × IsStart g finds start × runs start end ended × is_closed end.journal left)
    ⊎ ((why : CommandFault) × IsUnopened why × (ended ≡ Err why))

-- ---- `push`

-- the service of a job, and what its provider keeps
abbrev pub service_of : Job → Delivery → Service
service_of job delivery = service_at delivery.keeps job.service

module _ {I O J : Type 0} (remaining : I → Option (List ℕ)) (contents : O → Option (List ℕ)) (g : Journals J) where
  -- the records of these sources were carried at this pace, and reported in this way
  abbrev pub CarriesAs : (quiet : Bool) → Pace → Service → Sources → (old new : State J)
      → Result Outcome RunFault → Type 0
  CarriesAs true pace service sources old new carried =
      CarriesQuietly remaining contents g pace service sources old new carried
  CarriesAs false pace service sources old new carried =
      CarriesSilentlyAt remaining contents g pace service sources old new carried

  -- The records of these sources were carried; the status is that of this run, or its fault with the system's error
  abbrev pub Pushes : (quiet : Bool) → Pace → Service → Sources → (old new : State J) → (last : Option Error)
      → Result Status CommandFault → Type 0
  Pushes quiet pace service sources old new last ended =
      (carried : Result Outcome RunFault) × CarriesAs quiet pace service sources old new carried
      × (ended ≡ concluded last (pushed_status carried))

  -- the same; or memory ran out, and the connector is as it was
  abbrev pub PushesKnown : Delivery → Service → Sources → (old new : State J) → Result Status CommandFault → Type 0
  PushesKnown delivery service sources old new ended =
      ((last : Option Error) × Pushes delivery.is_quiet delivery.pace service sources old new last ended)
      ⊎ ((why : CommandFault) × (ended ≡ Err why) × (new ≡ old))
