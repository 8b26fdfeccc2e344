-- What `check` does over the journal that it opens, and its exit status.
use Rattle.std.specs.Prelude.{◌≡◌, ◌⊎◌, ◌&&◌, ℕ, Bool, true, List, Option, Some, None, Result, Ok, Err, codes, if◌then◌else◌}
use denote.Ref.{Bor}
use Rattle.std.specs.declared.io.Error.{Error}
use Rattle.clap.specs.Matches.{first_value, one_text}
use Rattle.clap.specs.declared.parser.matches.Found.{Found}
use Rattle.journal_core.specs.Entries.{EntryMap}
use Rattle.journal_core.specs.declared.entries.Entry.{Entry}
use Rattle.journal_core.specs.declared.journals.Journal.{Ghosts as Journals}
use Rattle.connector_core.specs.Maps.{BookMap}
use Rattle.connector_core.specs.State.{State}
use Rattle.storage.specs.JournalOpened.{IsOpenedAt}
use Rattle.provisioning.specs.DryRuns.{IsOver}
use Rattle.provisioning.specs.Offering.{OffersAll}
use Rattle.provisioning.specs.declared.faults.RunFault.{RunFault}
use Rattle.provisioning.specs.declared.sources.Sources.{Sources}
use Rattle.provisioning.specs.Services.{Service, service_at}
use Rattle.provisioning.specs.declared.services.ProviderKeeps.{ProviderKeeps}
use Rattle.checking.specs.Checks.{ChecksAloud}
use Rattle.checking.specs.Counting.{are_in_step}
use Rattle.checking.specs.declared.counts.Counts.{Counts}
use Rattle.commands.specs.Causes.{concluded}
use Rattle.commands.specs.Manners.{GivesStreams, wanted_keeps}
use Rattle.commands.specs.Planning.{IsReadFrom}
use Rattle.commands.specs.Running.{IsJob, ReadsFiles}
use Rattle.commands.specs.Words.{wanted_service}
use Rattle.commands.specs.declared.jobs.Job.{Job}
use Rattle.commands.specs.declared.status.CommandFault.{CommandFault}
use Rattle.commands.specs.declared.status.CommandFault.TheVariants as fault
use Rattle.commands.specs.declared.status.Status.{Status}
use Rattle.commands.specs.declared.status.Status.TheVariants.{Done, Refused}

-- the exit status of a check, in which each row of the files was taken, or not
abbrev pub checked_status : Result Counts RunFault → (taken : Bool) → Result Status CommandFault
checked_status (Ok counts) taken = Ok (if are_in_step counts && taken then Done else Refused)
checked_status (Err why) taken = Err (fault.Run why)

-- the book of a connector over a copy of the entries of a journal, which was only read, and closed
abbrev pub IsCopyOf : {J L : Type 0} → Journals J → (finds : EntryMap → Type 0)
    → (is_closed : J → L → Type 0) → BookMap → Type 0
IsCopyOf {J} g finds is_closed book = (first : J) × (list : List Entry) × IsOpenedAt g finds first
    × IsReadFrom g is_closed first list × IsOver list book

-- The rows of the files that these arguments name were offered to a connector, which took each of them, or not. If they
-- name no file of users, the connector is as it was
abbrev pub OffersFiles : {M : Type 0} → Journals M → Found → (old new : State M) → (taken : Bool) → Type 0
OffersFiles h found old new taken =
    ((first_value found (codes "users") ≡ None) × (new ≡ old) × (taken ≡ true))
    ⊎ ((job : Job) × (sources : Sources) × IsJob found job × ReadsFiles None job (Ok sources)
    × OffersAll h sources old new None None (Ok taken))

module _ {I O : Type 0} (remaining : I → Option (List ℕ)) (contents : O → Option (List ℕ)) where
  -- the records of this book were checked; the status is that of the counts, or the fault has the system's error
  abbrev pub EndsChecking : Service → BookMap → (taken : Bool) → (last : Option Error)
      → Result Status CommandFault → Type 0
  EndsChecking service book taken last ended = (checked : Result Counts RunFault)
      × ChecksAloud remaining contents service book checked × (ended ≡ concluded last (checked_status checked taken))

  -- The records of a copy of the journal, to which the rows of the files were offered, were checked: at the service
  -- that the arguments name, as one that keeps what they say, with as many streams as they say
  pub record IsCheckedFrom {J L M : Type 0} (g : Journals J) (h : Journals M) (finds : EntryMap → Type 0)
      (is_closed : J → L → Type 0) (found : Found) (status : Status) : Type 0 where
    pub base : List ℕ
    pub keeps : ProviderKeeps
    pub streams : ℕ
    pub copy : State M
    pub offered : State M
    pub taken : Bool
    pub last : Option Error
    pub service_is : wanted_service (first_value found (codes "base")) (first_value found (codes "path"))
        ≡ Ok base
    pub keeps_is : wanted_keeps (first_value found (codes "provider-keeps")) ≡ Ok keeps
    pub streams_are : GivesStreams (first_value found (codes "streams")) (one_text found (codes "streams")) (Ok streams)
    pub copied : IsCopyOf g finds is_closed copy.book
    pub offers : OffersFiles h found copy offered taken
    pub ends : EndsChecking (service_at keeps base) offered.book taken last (Ok status)

  -- from the journal that was named
  abbrev pub IsCheckedAt : {J L M H : Type 0} → Journals J → Journals M → (finds : H → EntryMap → Type 0)
      → (is_closed : J → L → Type 0) → Found → Option (Bor H) → Status → Type 0
  IsCheckedAt g h finds is_closed found (Some journal) status =
      IsCheckedFrom g h (finds journal.now) is_closed found status
  IsCheckedAt g h finds is_closed found None status = ⊥
