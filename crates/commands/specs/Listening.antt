-- What `serve` does, and its exit status.
use Rattle.std.specs.Prelude.{◌≡◌, ◌*◌, ℕ, List, [], Option, Some, None, Result, Ok, codes}
use Rattle.std.specs.Result.{result_and}
use Rattle.clap.specs.Matches.{first_value, one_text}
use Rattle.clap.specs.declared.parser.matches.Found.{Found}
use Rattle.provider_core.specs.Memory.{MemoryRecord}
use Rattle.provider_core.specs.declared.registry.Registry.{Ghosts}
use Rattle.connection.specs.Requests.{FollowRequests}
use Rattle.connection.specs.Turns.{ServesTurns}
use Rattle.connection.specs.declared.serving.ConnectionFault.{ConnectionFault}
use Rattle.commands.specs.Stored.{ServesFrom}
use Rattle.storage.specs.StoreOpened.{IsOpenedAt}
use Rattle.scim_resource.specs.Rows.{StoredRecord}
use denote.Ref.{Bor}
use Rattle.commands.specs.Statuses.{outcome_status}
use Rattle.commands.specs.Words.{GivesLongestSearch, GivesRequests, wanted_base}
use Rattle.commands.specs.declared.status.Status.{Status}

module _ {L I O : Type 0} (waiting : L → Option (List (I × O))) (remaining : I → Option (List ℕ))
    (contents : O → Option (List ℕ)) (search_time : L → ℕ) where
  module _ {R : Type 0} (g : Ghosts R) (finds : List StoredRecord → Type 0) (base : List ℕ) where
    -- so many connections were served from these rows, and each search had this time, in nanoseconds
    -- (the answers that were still being sent came to `finished`)
    pub record ServesRows (rows : R) (count time : ℕ) (status : Status) : Type 0 where
      pub before : L
      pub after : L
      pub last : R
      pub outcome : Result (Unit {0}) ConnectionFault
      pub finished : Result (Unit {0}) ConnectionFault
      pub serves : ServesFrom waiting remaining contents g finds base before after rows last count outcome
      pub status_is : status ≡ outcome_status (result_and outcome finished)
      pub time_is : search_time before ≡ time

    -- the same from rows that were opened
    abbrev pub ServesStored : (count time : ℕ) → Status → Type 0
    ServesStored count time status = (first : R) × IsOpenedAt g finds first × ServesRows first count time status

  -- so many connections were served by a provider in memory that started empty
  pub record ServesEmpty (g : Ghosts MemoryRecord) (base : List ℕ) (count time : ℕ) (status : Status) : Type 0 where
    pub before : L
    pub after : L
    pub held : MemoryRecord
    pub outcome : Result (Unit {0}) ConnectionFault
    pub finished : Result (Unit {0}) ConnectionFault
    pub follows : FollowRequests [] held.rows count
    pub serves : ServesTurns waiting remaining contents g base before after
        (record { rows = []; writes = 0 }) held count outcome
    pub status_is : status ≡ outcome_status (result_and outcome finished)
    pub time_is : search_time before ≡ time

  -- from the rows of a store, if one is named
  abbrev pub ServesNamed : {R K : Type 0} → Ghosts R → (finds : K → List StoredRecord → Type 0) → Ghosts MemoryRecord
      → (base : List ℕ) → (count time : ℕ) → (store : Option (Bor K)) → Status → Type 0
  ServesNamed rows finds memory base count time (Some store) status =
      ServesStored rows (finds store.now) base count time status
  ServesNamed rows finds memory base count time None status = ServesEmpty memory base count time status

  -- at the base, as often, and with as much time for each search, as the arguments say
  pub record IsServed {R K : Type 0} (rows : Ghosts R) (finds : K → List StoredRecord → Type 0)
      (memory : Ghosts MemoryRecord) (found : Found) (store : Option (Bor K)) (status : Status) : Type 0 where
    pub base : List ℕ
    pub base_is : wanted_base (first_value found (codes "base")) ≡ Ok base
    pub count : ℕ
    pub count_is : GivesRequests (first_value found (codes "requests")) (one_text found (codes "requests")) (Ok count)
    pub seconds : ℕ
    pub seconds_is : GivesLongestSearch (first_value found (codes "longest-search"))
        (one_text found (codes "longest-search")) (Ok seconds)
    pub serves : ServesNamed rows finds memory base count (seconds * 1_000_000_000) store status
