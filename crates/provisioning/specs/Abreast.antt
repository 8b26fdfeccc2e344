-- Every record, several at once: users, and then groups.
use Rattle.std.specs.Prelude.{◌≡◌, ◌⊎◌, ◌+◌, ◌&&◌, ℕ, Bool, true, false, List, [], ◌++◌, Option, Result, Ok, Err}
use Rattle.std.specs.Prelude.{min, take, drop}
use Rattle.std.specs.List.{prefix_len}
use Rattle.scim_key.specs.declared.records.Kind.{Kind}
use Rattle.scim_key.specs.declared.records.Kind.TheVariants.{User, Group}
use Rattle.scim_key.specs.declared.records.RecordName.{RecordName}
use Rattle.journal_core.specs.declared.journals.Journal.{Ghosts}
use Rattle.connector_core.specs.State.{State}
use Rattle.provisioning.specs.Openings.{Opening}
use Rattle.provisioning.specs.Orders.{IsPushOrder}
use Rattle.provisioning.specs.Records.{greatest_count}
use Rattle.provisioning.specs.Runs.{Done}
use Rattle.provisioning.specs.Services.{Service}
use Rattle.provisioning.specs.Windows.{AllMoved, PartMoved, PushesAbreast}
use Rattle.provisioning.specs.declared.faults.RunFault.{RunFault}
use Rattle.provisioning.specs.declared.faults.RunFault.TheVariants.{Memory}
use Rattle.provisioning.specs.declared.pushing.Tally.{Tally}

-- ---- users and groups

abbrev pub is_of_user : Kind → Bool
is_of_user User = true
is_of_user Group = false

abbrev pub is_user : RecordName → Bool
is_user name = is_of_user name.kind

-- of records in the order in which they are pushed, the users, and the groups after them
abbrev pub users_of : List RecordName → List RecordName
users_of names = take (prefix_len is_user names) names

abbrev pub groups_of : List RecordName → List RecordName
groups_of names = drop (prefix_len is_user names) names

-- ---- a run

-- the result for both
abbrev pub both : Tally → Tally → Tally
both tally more = record {
  exchanges = min greatest_count (tally.exchanges + more.exchanges);
  is_settled = tally.is_settled && more.is_settled;
}

abbrev pub joined : Tally → Result Tally RunFault → Result Tally RunFault
joined tally (Ok more) = Ok (both tally more)
joined tally (Err fault) = Err fault

module _ {I O J : Type 0} (remaining : I → Option (List ℕ))
    (contents : O → Option (List ℕ)) (g : Ghosts J) (service : Service) (window limit : ℕ) where
  -- the groups begin when every user is done and reported; or a fault ended the run before. Streaks of users and of
  -- groups are counted apart
  abbrev pub PushesBoth : (users groups : List RecordName) → (opened : List (Opening I O)) → (old new : State J)
      → (before after : Option (List Done)) → Result Tally RunFault → Type 0
  PushesBoth users groups opened old new before after result =
      ((first : List (Opening I O)) × (last : List (Opening I O)) × (between : State J)
      × (then : Option (List Done)) × (tally : Tally) × (more : Result Tally RunFault) × (opened ≡ first ++ last)
      × AllMoved remaining contents g service window limit users first old between before then tally
      × PushesAbreast remaining contents g service window limit groups last between new then after more
      × (result ≡ joined tally more))
      ⊎ ((fault : RunFault) × PartMoved remaining contents g service window limit users opened old new fault
      × (result ≡ Err fault))

  -- The records of the connector, users and then groups, in this order; or memory ran out before the first of them
  abbrev pub PushesAllAbreast : (leavers_first : Bool) → (opened : List (Opening I O)) → (old new : State J)
      → (before after : Option (List Done)) → Result Tally RunFault → Type 0
  PushesAllAbreast leavers_first opened old new before after result =
      ((names : List RecordName) × IsPushOrder leavers_first old.book names
      × PushesBoth (users_of names) (groups_of names) opened old new before after result)
      ⊎ ((opened ≡ []) × (result ≡ Err Memory) × (new ≡ old))
