-- A push, which may begin with a recheck, and may switch off only so many users if there is a limit.
use Rattle.std.specs.Prelude.{◌≡◌, ◌⊎◌, ◌+◌, ◌-◌, ◌^◌, ℕ, Bool, true, false, List, Option, Some, None, Result, Ok, Err, min, nat_lt, if◌then◌else◌}
use Rattle.journal_core.specs.Entries.{EntryMap}
use Rattle.journal_core.specs.declared.journals.Journal.{Ghosts as Journals}
use Rattle.connector_core.specs.Maps.{BookMap}
use Rattle.connector_core.specs.State.{State}
use Rattle.provisioning.specs.Leavers.{leavers_by}
use Rattle.provisioning.specs.declared.faults.RunFault.{RunFault}
use Rattle.provisioning.specs.declared.sources.Sources.{Sources}
use Rattle.provisioning.specs.Services.{Service}
use Rattle.checking.specs.Rechecks.{RechecksAt}
use Rattle.commands.specs.Running.{PushesKnown, ReadsFiles, RunsOver, numbering_of, service_of}
use Rattle.commands.specs.declared.jobs.Job.{Job}
use Rattle.commands.specs.declared.manners.Delivery.{Delivery}
use Rattle.commands.specs.declared.status.CommandFault.{CommandFault}
use Rattle.commands.specs.declared.status.CommandFault.TheVariants as fault
use Rattle.commands.specs.declared.status.Status.{Status}
use Rattle.commands.specs.declared.status.Status.TheVariants.{Refused}

-- these are more users than a run may switch off
abbrev pub is_excess : (count : ℕ) → (most : Option ℕ) → Bool
is_excess count (Some most) = nat_lt most count
is_excess count None = false

-- so many and so many users, up to the greatest number
abbrev pub in_all : (leavers rechecked : ℕ) → ℕ
in_all leavers rechecked = min (leavers + rechecked) (2 ^ 64 - 1)

-- ---- the files

-- these files, if they switch off no more users than this
abbrev pub if_within : (most count : ℕ) → Sources → Option Sources
if_within most count sources = if is_excess count (Some most) then None else Some sources

-- The files of a job were read, as snapshots numbered by this book if they are some; and they stay if a run that starts
-- with the book switches off no more users than this, beside those whom a recheck switches off
abbrev pub IsWithin : Job → (most rechecked : ℕ) → BookMap → Option Sources → Type 0
IsWithin job most rechecked book kept = (sources : Sources) × ReadsFiles (numbering_of job book) job (Ok sources)
    × (kept ≡ if_within most (in_all (leavers_by book sources) rechecked) sources)

-- the files of a job were read, and stay if they keep to the limit; they always stay if there is none, and then they
-- are files of revisions
abbrev pub Approves : Job → (most : Option ℕ) → (rechecked : ℕ) → BookMap → Option Sources → Type 0
Approves job (Some most) rechecked book kept = IsWithin job most rechecked book kept
Approves job None rechecked book kept = (sources : Sources) × ReadsFiles None job (Ok sources) × (kept ≡ Some sources)

-- ---- the run

module _ {I O J : Type 0} (remaining : I → Option (List ℕ)) (contents : O → Option (List ℕ))
    (g : Journals J) where
  -- the files keep to the limit, and their records were carried by this connector
  abbrev pub IsCarried : Delivery → Job → (most : Option ℕ) → (rechecked : ℕ) → (old new : State J)
      → Result Status CommandFault → Type 0
  IsCarried delivery job most rechecked old new ended = (sources : Sources)
      × Approves job most rechecked old.book (Some sources)
      × PushesKnown remaining contents g delivery (service_of job delivery) sources old new ended

  -- more users than this would be switched off: the connector is as it was
  abbrev pub IsStopped : Job → (most : Option ℕ) → (rechecked : ℕ) → (old new : State J) → Result Status CommandFault
      → Type 0
  IsStopped job most rechecked old new ended =
      Approves job most rechecked old.book None × (new ≡ old) × (ended ≡ Ok Refused)

  -- a file couldn't be read, or memory ran out: the connector is as it was
  abbrev pub IsFailed : (old new : State J) → Result Status CommandFault → Type 0
  IsFailed old new ended = (why : CommandFault) × (new ≡ old) × (ended ≡ Err why)

  -- one of these
  abbrev pub PushesApproved : Delivery → Job → (most : Option ℕ) → (rechecked : ℕ) → (old new : State J)
      → Result Status CommandFault → Type 0
  PushesApproved delivery job most rechecked old new ended =
      IsCarried delivery job most rechecked old new ended
      ⊎ (IsStopped job most rechecked old new ended ⊎ IsFailed old new ended)

  -- if a recheck is wanted, it doubts what differs, and so many users would be switched off by it; or it ended early
  abbrev pub BeginsBy : (is_rechecked : Bool) → Service → (old new : State J) → Result ℕ RunFault → Type 0
  BeginsBy true service old new begun = RechecksAt remaining contents service old new begun
  BeginsBy false service old new begun = (new ≡ old) × (begun ≡ Ok 0)

  -- the push goes on from the connector that this leaves; or its fault ends the push
  abbrev pub GoesOnAs : Delivery → Job → (most : Option ℕ) → (between new : State J) → Result ℕ RunFault
      → Result Status CommandFault → Type 0
  GoesOnAs delivery job most between new (Ok rechecked) ended =
      PushesApproved delivery job most rechecked between new ended
  GoesOnAs delivery job most between new (Err why) ended = (new ≡ between) × (ended ≡ Err (fault.Run why))

  -- a push that begins with a recheck, if one is wanted
  abbrev pub PushesChecked : Delivery → Job → (most : Option ℕ) → (old new : State J)
      → Result Status CommandFault → Type 0
  PushesChecked delivery job most old new ended = (between : State J) × (begun : Result ℕ RunFault)
      × BeginsBy delivery.is_rechecked (service_of job delivery) old between begun
      × GoesOnAs delivery job most between new begun ended

  -- by a connector over a journal that was opened for it, and closed; or the journal couldn't be opened or read
  abbrev pub PushesOver : {L : Type 0} → (finds : EntryMap → Type 0) → (is_closed : J → L → Type 0)
      → Delivery → Job → (most : Option ℕ) → Result Status CommandFault → Type 0
  PushesOver finds is_closed delivery job most ended =
      RunsOver g finds is_closed (PushesChecked delivery job most) ended
