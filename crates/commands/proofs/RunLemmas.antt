-- Runs of `push` and `serve`, put together from their parts.
use Rattle.std.proofs.Common.{◌≡◌, ℕ, subst, List, [], Option, Result, Ok, Err, IfOk}
use denote.Ref.{Bor}
use Rattle.std.specs.Result.{result_and}
use Rattle.clap.specs.declared.parser.matches.Found.{Found}
use Rattle.journal_core.specs.Entries.{EntryMap}
use Rattle.journal_core.specs.declared.journals.Journal.{Ghosts}
use Rattle.scim_resource.specs.Rows.{StoredRecord}
use Rattle.provider_core.specs.Memory.{MemoryRecord as RowsRecord}
use Rattle.provider_core.specs.declared.registry.Registry.{Ghosts as Registries}
use Rattle.connection.specs.Requests.{FollowRequests}
use Rattle.connection.specs.Turns.{ServesTurns}
use Rattle.connection.specs.declared.serving.ConnectionFault.{ConnectionFault}
use Rattle.commands.specs.Stored.{ServesFrom}
use Rattle.storage.specs.StoreOpened.{IsOpenedAt}
use Rattle.commands.specs.Listening.{ServesEmpty, ServesRows, ServesStored}
use Rattle.commands.specs.Statuses.{outcome_status}
use Rattle.commands.specs.Limits.{PushesOver}
use Rattle.commands.specs.Planning.{IsPushed}
use Rattle.commands.specs.Running.{IsJob}
use Rattle.commands.specs.Looping.{IsLooped, LoopsWith}
use Rattle.commands.specs.declared.jobs.Job.{Job}
use Rattle.commands.specs.declared.manners.Manner.{Manner}
use Rattle.commands.specs.declared.status.CommandFault.{CommandFault}
use Rattle.commands.specs.declared.status.Status.{Status}

module _ {I K O R L F S J M H E : Type 0} (remaining : I → Option (List ℕ)) (memory_remaining : K → Option (List ℕ)) (contents : O → Option (List ℕ)) (rows : Registries R) (finds : F → List StoredRecord → Type 0) (is_closed : R → L → Type 0) (memory_rows : Registries S) (g : Ghosts J) (holds : H → EntryMap → Type 0) (is_left : J → E → Type 0) (memory : Ghosts M) where
  pub looped : (found : Found) (job : Job) (store : Option (Bor F)) (journal : Option (Bor H)) (ended : Result Status CommandFault) → IsJob found job
      → LoopsWith remaining memory_remaining contents rows finds is_closed memory_rows g holds is_left memory job store journal ended → IfOk ended (IsLooped remaining memory_remaining contents rows finds is_closed memory_rows g holds is_left memory found store journal)
  looped found job store journal (Ok status) is loops = (job, is, loops)
  looped found job store journal (Err why) is loops = tt

module _ {L I O : Type 0} (waiting : L → Option (List (I × O))) (remaining : I → Option (List ℕ)) (contents : O → Option (List ℕ)) (search_time : L → ℕ) where
  pub rows_served : {R : Type 0} (g : Registries R) (finds : List StoredRecord → Type 0) (base : List ℕ) (rows : R) (count time : ℕ) (before after : L)
      (outcome finished : Result (Unit {0}) ConnectionFault) (status : Status)
      → (last : R) × ServesFrom waiting remaining contents g finds base before after rows last count outcome
      → status ≡ outcome_status (result_and outcome finished) → search_time before ≡ time
      → ServesRows waiting remaining contents search_time g finds base rows count time status
  rows_served g finds base rows count time before after outcome finished status served is has_time =
      record { before = before; after = after; last = served.0; outcome = outcome; finished = finished; serves = served.1; status_is = is; time_is = has_time }

  pub stored_served : {R : Type 0} (g : Registries R) (finds : List StoredRecord → Type 0) (base : List ℕ) (rows : R)
      (count time seconds : ℕ) (status : Status) → IsOpenedAt g finds rows
      → ServesRows waiting remaining contents search_time g finds base rows count time status → time ≡ seconds
      → ServesStored waiting remaining contents search_time g finds base count seconds status
  stored_served g finds base rows count time seconds status opened serves is =
      (rows, opened, subst (λ (t : ℕ). ServesRows waiting remaining contents search_time g finds base rows count t status) is serves)

  pub memory_served : (g : Registries RowsRecord) (base : List ℕ) (count time : ℕ) (before after : L)
      (outcome finished : Result (Unit {0}) ConnectionFault) (status : Status)
      → (held : RowsRecord) × FollowRequests [] held.rows count × ServesTurns waiting remaining contents g base before after (record { rows = []; writes = 0 }) held count outcome
      → status ≡ outcome_status (result_and outcome finished) → search_time before ≡ time
      → ServesEmpty waiting remaining contents search_time g base count time status
  memory_served g base count time before after outcome finished status served is has_time =
      record { before = before; after = after; held = served.0; outcome = outcome; finished = finished; follows = served.1; serves = served.2; status_is = is; time_is = has_time }

-- the records were carried as the arguments want it
module _ {I O J L : Type 0} (remaining : I → Option (List ℕ)) (contents : O → Option (List ℕ)) (g : Ghosts J) (finds : EntryMap → Type 0) (is_closed : J → L → Type 0) (manner : Manner) (found : Found) (job : Job) where
  pub pushed : (ended : Result Status CommandFault) → IsJob found job → PushesOver remaining contents g finds is_closed manner.delivery job manner.most_leavers ended
      → IfOk ended (IsPushed remaining contents g finds is_closed manner found)
  pushed (Ok status) is pushes = (job, is, pushes)
  pushed (Err why) is pushes = tt

-- what a success means, by what else it means
pub if_ok : {T F : Type 0} {P Q : T → Type 0} (r : Result T F) → ((x : T) → P x → Q x) → IfOk r P → IfOk r Q
if_ok (Ok x) changes p = changes x p
if_ok (Err e) changes p = tt
