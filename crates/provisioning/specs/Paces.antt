-- Every record, one after another or several at once.
use Rattle.std.specs.Prelude.{◌≡◌, ◌⊎◌, ◌≤◌, ℕ, Bool, List, [], Option, Result, Err}
use Rattle.scim_key.specs.declared.records.RecordName.{RecordName}
use Rattle.journal_core.specs.declared.journals.Journal.{Ghosts}
use Rattle.connector_core.specs.State.{State}
use Rattle.provisioning.specs.Abreast.{PushesAllAbreast}
use Rattle.provisioning.specs.Openings.{Opening}
use Rattle.provisioning.specs.Orders.{IsPushOrder}
use Rattle.provisioning.specs.Runs.{Done, PushesEach}
use Rattle.provisioning.specs.Services.{Service}
use Rattle.provisioning.specs.Windows.{window_of}
use Rattle.provisioning.specs.declared.faults.RunFault.{RunFault}
use Rattle.provisioning.specs.declared.faults.RunFault.TheVariants.{Memory}
use Rattle.provisioning.specs.declared.paces.Pace.{Pace}
use Rattle.provisioning.specs.declared.pushing.Tally.{Tally}

module _ {I O J : Type 0} (remaining : I → Option (List ℕ)) (contents : O → Option (List ℕ)) (g : Ghosts J)
    (service : Service) where
  -- The records of the connector, one after another, in this order; or memory ran out before the first of them. In the
  -- order of keys, and without a limit of streaks, this is `PushesAll`
  abbrev pub PushesInTurn : (leavers_first : Bool) → (limit : ℕ) → (opened : List (Opening I O))
      → (old new : State J) → (before after : Option (List Done)) → Result Tally RunFault → Type 0
  PushesInTurn leavers_first limit opened old new before after result =
      ((names : List RecordName) × IsPushOrder leavers_first old.book names
      × PushesEach remaining contents g service limit names opened old new before after result)
      ⊎ ((opened ≡ []) × (result ≡ Err Memory) × (new ≡ old))

  -- so many of them at once as there are streams
  abbrev pub PushesAt : Pace → (opened : List (Opening I O)) → (old new : State J) → (before after : Option (List Done))
      → Result Tally RunFault → Type 0
  PushesAt pace opened old new before after result =
      PushesAllAbreast remaining contents g service (window_of pace.streams) pace.give_up_after pace.leavers_first opened
      old new before after result

-- if there is only one stream, one after another
abbrev pub OneStreamIsInTurn : {I O J : Type 0} → (I → Option (List ℕ)) → (O → Option (List ℕ)) → Ghosts J → Type 0
OneStreamIsInTurn {I} {O} {J} remaining contents g =
    (service : Service) (pace : Pace) (opened : List (Opening I O)) (old new : State J)
    (before after : Option (List Done)) (result : Result Tally RunFault) → pace.streams ≤ 1
    → PushesAt remaining contents g service pace opened old new before after result
    → PushesInTurn remaining contents g service pace.leavers_first pace.give_up_after opened old new before after result
