-- Connections that were served from stored rows.
use Rattle.std.specs.Prelude.{◌≡◌, ◌<◌, ℕ, List, [], ◌∷◌, length, Option, Result, Ok}
use Rattle.std.specs.Result.{result_and}
use Rattle.scim_resource.specs.Rows.{StoredRecord}
use Rattle.provider_core.specs.declared.registry.Registry.{Ghosts}
use Rattle.http_text.specs.declared.fault.ReadFault.{ReadFault}
use Rattle.http_text.specs.Counts.{Reading, Writing}
use Rattle.http_text.specs.Message.{Message}
use Rattle.connection.specs.declared.answering.Served.{Served}
use Rattle.connection.specs.Serving.{HasRead, LeavesRows, Serves}
use Rattle.connection.specs.declared.serving.ConnectionFault.{ConnectionFault}
use Rattle.connection.specs.Requests.{FollowRequests}
use Rattle.connection.specs.Turns.{ServesTurns}
use Rattle.storage.specs.StoreOpened.{IsOpened, IsMended}

-- ---- one connection

-- what was read, and the answer of a provider at this base over rows that were opened for it
pub record AnswersFrom {R : Type 0} (g : Ghosts R) (base : List ℕ) (old new : Reading)
    (before after : Writing) (served : Served) : Type 0 where
  pub first : R
  pub last : R
  pub opened : IsOpened g first
  pub read : Result Message ReadFault
  pub has_read : HasRead old new read
  pub serves : Serves (g.is_faithful last) base (g.rows first) (g.rows last) before after read served
  pub leaves : LeavesRows g first last read

-- the same, and the rows are such that an opening of their place finds
pub record AnswersFound {R : Type 0} (g : Ghosts R) (finds : List StoredRecord → Type 0) (base : List ℕ)
    (old new : Reading) (before after : Writing) (served : Served) : Type 0 where
  pub answers : AnswersFrom g base old new before after served
  pub found : g.is_honest answers.first → finds (g.rows answers.first)

-- ---- many connections

-- each had no fault; the list has the last first
abbrev pub all_of : List (Result (Unit {0}) ConnectionFault) → Result (Unit {0}) ConnectionFault
all_of [] = Ok tt
all_of (result ∷ earlier) = result_and (all_of earlier) result

module _ {L I O R : Type 0} (waiting : L → Option (List (I × O))) (remaining : I → Option (List ℕ))
    (contents : O → Option (List ℕ)) (g : Ghosts R) (finds : List StoredRecord → Type 0) (base : List ℕ) where
  -- one more connection: it is served from the rows that the one before left, which are opened again after a fault of
  -- their store
  pub record ServesNext (before after : L) (old new : R) (result : Result (Unit {0}) ConnectionFault) : Type 0 where
    pub start : R
    pub mended : IsMended g finds old start
    pub turn : ServesTurns waiting remaining contents g base before after start new 1 result
    pub follows : g.is_faithful new → FollowRequests (g.rows start) (g.rows new) 1

  -- these connections; the list has the last first
  abbrev pub ServesEach : List (Result (Unit {0}) ConnectionFault) → (before after : L) → (old new : R) → Type 0
  ServesEach [] before after old new = (after ≡ before) × (new ≡ old)
  ServesEach (result ∷ earlier) before after old new =
      (middle : L) × (last : R) × ServesEach earlier before middle old last × ServesNext middle after last new result

  -- `count` connections, one after another
  pub record ServesFrom (before after : L) (old new : R) (count : ℕ)
      (outcome : Result (Unit {0}) ConnectionFault) : Type 0 where
    pub results : List (Result (Unit {0}) ConnectionFault)
    pub count_is : length results ≡ count
    pub served : ServesEach results before after old new
    pub outcome_is : outcome ≡ all_of results

  -- fewer were served, and the store of the rows that the last one left had a fault
  pub record IsRefused (before after : L) (old : R) (count : ℕ) : Type 0 where
    pub left : R
    pub served : ℕ
    pub fewer : served < count
    pub outcome : Result (Unit {0}) ConnectionFault
    pub serves : ServesFrom before after old left served outcome
    pub failed : 0 < g.faults left
