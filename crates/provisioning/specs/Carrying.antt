-- A whole run of the connector: the rows of its files, then its records.
use Rattle.std.specs.Prelude.{◌≡◌, ◌⊎◌, ◌&&◌, ℕ, Bool, List, [], Option, None, Result, Ok, Err}
use Rattle.journal_core.specs.declared.journals.Journal.{Ghosts}
use Rattle.connector_core.specs.State.{State}
use Rattle.provisioning.specs.Openings.{Opening}
use Rattle.provisioning.specs.Paces.{PushesAt}
use Rattle.provisioning.specs.Runs.{Done, PushesAll}
use Rattle.provisioning.specs.Services.{Service}
use Rattle.provisioning.specs.declared.faults.RunFault.{RunFault}
use Rattle.provisioning.specs.declared.paces.Pace.{Pace}
use Rattle.provisioning.specs.declared.pushing.Tally.{Tally}
use Rattle.provisioning.specs.Offering.{OffersAll}
use Rattle.provisioning.specs.Sources.{are_whole}
use Rattle.provisioning.specs.declared.carrying.Outcome.{Outcome}
use Rattle.provisioning.specs.declared.offering.Judged.{Judged}
use Rattle.provisioning.specs.declared.sources.Sources.{Sources}

-- nothing was refused, and every record's wanted revision is confirmed
abbrev pub is_done : Outcome → Bool
is_done outcome = outcome.is_taken && outcome.tally.is_settled

abbrev pub outcome_of : (taken : Bool) → Sources → Result Tally RunFault → Result Outcome RunFault
outcome_of taken sources (Ok tally) = Ok (record { is_taken = taken && are_whole sources; tally = tally })
outcome_of taken sources (Err fault) = Err fault

-- The rows were offered, and then the records were pushed in this way; or the rows of a file, or reporting one, ended
-- the run before any stream was opened
abbrev pub CarriesBy : {I O J T : Type 0}
    → (pushes : (opened : List (Opening I O)) → (old new : State J) → (before after : Option (List Done))
    → Result Tally RunFault → Type 0) → Ghosts J → (heard : T → Option (List Judged))
    → (told : T → Option (List Done)) → Sources → (opened : List (Opening I O)) → (old new : State J)
    → (before after : T) → Result Outcome RunFault → Type 0
CarriesBy {I} {O} {J} {T} pushes g heard told sources opened old new before after result =
    ((between : State J) × (mid : T) × (taken : Bool) × (tally : Result Tally RunFault)
    × OffersAll g sources old between (heard before) (heard mid) (Ok taken)
    × pushes opened between new (told mid) (told after) tally × (result ≡ outcome_of taken sources tally))
    ⊎ ((fault : RunFault) × (opened ≡ [])
    × OffersAll g sources old new (heard before) (heard after) (Err fault) × (result ≡ Err fault))

-- one record after another, in the order of keys
abbrev pub Carries : {I O J T : Type 0} → (I → Option (List ℕ)) → (O → Option (List ℕ)) → Ghosts J
    → (heard : T → Option (List Judged)) → (told : T → Option (List Done)) → Service → Sources
    → (opened : List (Opening I O)) → (old new : State J) → (before after : T) → Result Outcome RunFault → Type 0
Carries remaining contents g heard told service sources opened old new before after result =
    CarriesBy (PushesAll remaining contents g service) g heard told sources opened old new before after result

-- at this pace
abbrev pub CarriesAt : {I O J T : Type 0} → (I → Option (List ℕ)) → (O → Option (List ℕ)) → Ghosts J → Pace
    → (heard : T → Option (List Judged)) → (told : T → Option (List Done)) → Service → Sources
    → (opened : List (Opening I O)) → (old new : State J) → (before after : T) → Result Outcome RunFault → Type 0
CarriesAt remaining contents g pace heard told service sources opened old new before after result =
    CarriesBy (PushesAt remaining contents g service pace) g heard told sources opened old new before after result

-- the same, if it isn't known which streams were opened before, and how it is reported
abbrev pub CarriesToldAt : {I O J T : Type 0} → (I → Option (List ℕ)) → (O → Option (List ℕ)) → Ghosts J → Pace
    → (heard : T → Option (List Judged)) → (told : T → Option (List Done)) → Service → Sources → (old new : State J)
    → Result Outcome RunFault → Type 0
CarriesToldAt {I} {O} {J} {T} remaining contents g pace heard told service sources old new result =
    (opened : List (Opening I O)) × (before : T) × (after : T)
    × CarriesAt remaining contents g pace heard told service sources opened old new before after result

-- in any way, if it isn't known what was reported before, and which streams were opened before
abbrev pub SilentlyBy : {I O J : Type 0}
    → (pushes : (opened : List (Opening I O)) → (old new : State J) → (before after : Option (List Done))
    → Result Tally RunFault → Type 0) → Ghosts J → Sources → (old new : State J) → Result Outcome RunFault → Type 0
SilentlyBy {I} {O} pushes g sources old new result = (opened : List (Opening I O))
    × CarriesBy {T = Unit {0}} pushes g (λ told. None) (λ told. None) sources opened old new tt tt result

abbrev pub CarriesSilently : {I O J : Type 0} → (I → Option (List ℕ)) → (O → Option (List ℕ)) → Ghosts J
    → Service → Sources → (old new : State J) → Result Outcome RunFault → Type 0
CarriesSilently remaining contents g service sources old new result =
    SilentlyBy (PushesAll remaining contents g service) g sources old new result

abbrev pub CarriesSilentlyAt : {I O J : Type 0} → (I → Option (List ℕ)) → (O → Option (List ℕ)) → Ghosts J → Pace
    → Service → Sources → (old new : State J) → Result Outcome RunFault → Type 0
CarriesSilentlyAt remaining contents g pace service sources old new result =
    SilentlyBy (PushesAt remaining contents g service pace) g sources old new result
