-- Every record, one after another.
use Rattle.std.specs.Prelude.{◌≡◌, ◌⊎◌, ⊤, ◌+◌, ◌&&◌, ℕ, Bool, true, false, List, [], ◌∷◌, ◌++◌, map, Option, None, Result, Ok, Err, min}
use Rattle.std.specs.FinMap.{keys}
use Rattle.std.specs.List.{list_all, sum_by}
use Rattle.scim_key.specs.declared.records.RecordName.{RecordName}
use Rattle.mapping.specs.Settling.{IsSettleOrder}
use Rattle.journal_core.specs.declared.journals.Journal.{Ghosts}
use Rattle.connector_core.specs.State.{State}
use Rattle.provisioning.specs.Lists.{Adds}
use Rattle.provisioning.specs.Openings.{Opening}
use Rattle.provisioning.specs.Records.{EndsRun, IsPushed, greatest_count}
use Rattle.provisioning.specs.Services.{Service}
use Rattle.provisioning.specs.Streaks.{IsGivenUp, go_on_after, streak_with}
use Rattle.provisioning.specs.declared.faults.RunFault.{RunFault}
use Rattle.provisioning.specs.declared.faults.RunFault.TheVariants.{Untold, Memory}
use Rattle.provisioning.specs.declared.pushing.Tally.{Tally}
use Rattle.provisioning.specs.declared.records.Pushed.{Pushed}
use Rattle.provisioning.specs.declared.records.Standing.{Standing}
use Rattle.provisioning.specs.declared.records.Standing.TheVariants.{Confirmed, Waits, Unconfirmed}
use Rattle.provisioning.specs.declared.streaks.Streak.{Streak}

-- a record and its result
abbrev pub Done : Type 0
Done = RecordName × Pushed

-- ---- reporting

-- if it is known what was reported before, these records were reported after it
abbrev pub Tells : (old new : Option (List Done)) → List Done → Type 0
Tells old new done = Adds old new done

-- a row or a record can't be reported
abbrev pub IsUntold : RunFault → Type 0
IsUntold fault = (fault ≡ Untold) ⊎ (fault ≡ Memory)

-- ---- counting

abbrev pub is_confirmed : Standing → Bool
is_confirmed (Confirmed revision) = true
is_confirmed (Waits member) = false
is_confirmed (Unconfirmed fault) = false

-- how many exchanges there were, up to the greatest number, and whether every record is confirmed
abbrev pub tally_of : List Done → Tally
tally_of done = record {
  exchanges = min greatest_count (sum_by (λ d. d.1.exchanges) done);
  is_settled = list_all (λ d. is_confirmed d.1.standing) done;
}

-- the result with one more record
abbrev pub tally_with : Tally → Pushed → Tally
tally_with tally pushed = record {
  exchanges = min greatest_count (tally.exchanges + pushed.exchanges);
  is_settled = tally.is_settled && is_confirmed pushed.standing;
}

-- ---- the same obstacle in a row

-- the streak after these records, one after another
abbrev pub streak_after : Option Streak → List Done → Option Streak
streak_after streak [] = streak
streak_after streak (d ∷ done) = streak_after (streak_with streak d.1) done

abbrev pub streak_of : List Done → Option Streak
streak_of done = streak_after None done

-- after each of these records the run goes on
abbrev pub GoesOnAfterEach : (limit : ℕ) → Option Streak → List Done → Type 0
GoesOnAfterEach limit streak [] = ⊤
GoesOnAfterEach limit streak (d ∷ done) =
    (go_on_after limit (streak_with streak d.1) ≡ Ok tt) × GoesOnAfterEach limit (streak_with streak d.1) done

-- no streak among these records has reached the limit
abbrev pub NeverGivesUp : (limit : ℕ) → List Done → Type 0
NeverGivesUp limit done = GoesOnAfterEach limit None done

-- ---- the run

module _ {I O J : Type 0} (remaining : I → Option (List ℕ)) (contents : O → Option (List ℕ))
    (g : Ghosts J) (service : Service) where
  -- these records, one after another, each on the connector that the one before left; the openings are theirs, in order
  abbrev pub AreDone : List Done → (opened : List (Opening I O)) → (old new : State J) → Type 0
  AreDone [] opened old new = (opened ≡ []) × (new ≡ old)
  AreDone (d ∷ done) opened old new =
      (first : List (Opening I O)) × (others : List (Opening I O)) × (between : State J)
      × (opened ≡ first ++ others) × IsPushed remaining contents g service d.0 first old between d.1
      × AreDone done others between new

  -- the first of the other records ended the run
  abbrev pub EndsAt : List RecordName → (opened : List (Opening I O)) → (old new : State J) → RunFault → Type 0
  EndsAt [] opened old new fault = ⊥
  EndsAt (name ∷ names) opened old new fault = EndsRun remaining contents g service name opened old new fault

-- each of these records was done, reported and counted
pub record AllDone {I O J : Type 0} (remaining : I → Option (List ℕ)) (contents : O → Option (List ℕ))
    (g : Ghosts J) (service : Service) (names : List RecordName) (opened : List (Opening I O))
    (old new : State J) (before after : Option (List Done)) (tally : Tally) : Type 0 where
  pub done : List Done
  pub names_are : map (λ d. d.0) done ≡ names
  pub are : AreDone remaining contents g service done opened old new
  pub tells : Tells before after done
  pub tally_is : tally ≡ tally_of done

-- the first of these records were done, until the next one, or reporting the last of them, or a streak of this length,
-- ended the run
pub record PartDone {I O J : Type 0} (remaining : I → Option (List ℕ)) (contents : O → Option (List ℕ))
    (g : Ghosts J) (service : Service) (limit : ℕ) (names : List RecordName) (opened : List (Opening I O))
    (old new : State J) (fault : RunFault) : Type 0 where
  pub done : List Done
  pub rest : List RecordName
  pub first : List (Opening I O)
  pub last : List (Opening I O)
  pub between : State J
  pub names_are : names ≡ map (λ d. d.0) done ++ rest
  pub opened_are : opened ≡ first ++ last
  pub are : AreDone remaining contents g service done first old between
  pub ends : EndsAt remaining contents g service rest last between new fault
      ⊎ ((last ≡ []) × (new ≡ between) × (IsUntold fault ⊎ IsGivenUp limit fault))

abbrev pub PushesEach : {I O J : Type 0} → (I → Option (List ℕ)) → (O → Option (List ℕ)) → Ghosts J
    → Service → (limit : ℕ) → List RecordName → (opened : List (Opening I O)) → (old new : State J)
    → (before after : Option (List Done)) → Result Tally RunFault → Type 0
PushesEach remaining contents g service limit names opened old new before after (Ok tally) =
    AllDone remaining contents g service names opened old new before after tally
PushesEach remaining contents g service limit names opened old new before after (Err fault) =
    PartDone remaining contents g service limit names opened old new fault

-- The records of the connector in the order in which they settle; or memory ran out before the first of them. The
-- openings are those of their exchanges, in the order of the exchanges. No streak ends the run
abbrev pub PushesAll : {I O J : Type 0} → (I → Option (List ℕ)) → (O → Option (List ℕ)) → Ghosts J
    → Service → (opened : List (Opening I O)) → (old new : State J) → (before after : Option (List Done))
    → Result Tally RunFault → Type 0
PushesAll remaining contents g service opened old new before after result =
    ((names : List RecordName) × IsSettleOrder (keys old.book) names
    × PushesEach remaining contents g service 0 names opened old new before after result)
    ⊎ ((opened ≡ []) × (result ≡ Err Memory) × (new ≡ old))
