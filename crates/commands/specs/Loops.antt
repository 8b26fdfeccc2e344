-- A run of `loop`: the connector against a provider in the same program, and what is printed after it.
use Rattle.std.specs.Prelude.{◌≡◌, ◌⊎◌, ◌≤◌, ◌++◌, ℕ, List, Option, Result, Ok, Err, ⊤, codes}
use Rattle.std.specs.Fmt.{decimal}
use Rattle.scim_key.specs.Stores.{HasRisen}
use Rattle.provider_core.specs.declared.provider.ProviderFault.{ProviderFault}
use Rattle.provider_core.specs.declared.provider.ProviderFault.TheVariants as provider
use Rattle.journal_core.specs.declared.journals.Journal.{Ghosts}
use Rattle.connector_core.specs.State.{State}
use Rattle.provisioning.specs.Carrying.{CarriesSilently}
use Rattle.provisioning.specs.Runs.{IsUntold}
use Rattle.provisioning.specs.declared.carrying.Outcome.{Outcome}
use Rattle.provisioning.specs.declared.faults.RunFault.{RunFault}
use Rattle.provisioning.specs.declared.faults.RunFault.TheVariants.{Memory}
use Rattle.provisioning.specs.declared.sources.Sources.{Sources}
use Rattle.provisioning.specs.Services.{keeping_at}
use Rattle.commands.specs.declared.looping.faults.LoopFault.{LoopFault}
use Rattle.commands.specs.declared.looping.faults.LoopFault.TheVariants.{Ended, Store}

-- such a run; or the provider couldn't listen, and nothing was offered
abbrev pub CarriesHere : {I O J : Type 0} → (I → Option (List ℕ)) → (O → Option (List ℕ)) → Ghosts J
    → List ℕ → Sources → (old new : State J) → Result Outcome RunFault → Type 0
CarriesHere remaining contents g base sources old new result =
    CarriesSilently remaining contents g (keeping_at base) sources old new result
    ⊎ ((fault : RunFault) × (result ≡ Err fault) × (new ≡ old))

-- a fault of the provider's store is counted; no other fault is one
abbrev pub CountsLook : (old new : ℕ) → LoopFault → Type 0
CountsLook old new Store = (old ≤ new) × HasRisen old new
CountsLook old new (Ended fault) = new ≡ old

-- why the records weren't printed after a run: the provider's store failed, a line can't be written, or memory ran out
abbrev pub IsUnprinted : LoopFault → Type 0
IsUnprinted Store = ⊤
IsUnprinted (Ended fault) = IsUntold fault

-- the fault after a run is that of the run; or, if the run had none, why its records weren't printed
abbrev pub EndsWith : Result Outcome RunFault → RunFault → Type 0
EndsWith (Ok outcome) fault = IsUntold fault
EndsWith (Err cause) fault = fault ≡ cause

-- The result of a run is the fault of the provider's store exactly if one was counted (`has_failed`). Otherwise it is
-- the outcome, if no fault came after it, or that fault
abbrev pub IsOutcome : (has_failed : Type 0) → Result Outcome RunFault → Result Outcome LoopFault → Type 0
IsOutcome has_failed carried (Ok outcome) = (has_failed → ⊥) × (carried ≡ Ok outcome)
IsOutcome has_failed carried (Err Store) = has_failed
IsOutcome has_failed carried (Err (Ended fault)) = (has_failed → ⊥) × EndsWith carried fault

-- However it ends, nothing but such a run changed the connector; `has_failed` says that a fault of the provider's store
-- was counted
abbrev pub Loops : {I O J : Type 0} → (I → Option (List ℕ)) → (O → Option (List ℕ)) → Ghosts J → List ℕ → Sources
    → (old new : State J) → (has_failed : Type 0) → Result Outcome LoopFault → Type 0
Loops remaining contents g base sources old new has_failed result =
    (carried : Result Outcome RunFault) × CarriesHere remaining contents g base sources old new carried
    × IsOutcome has_failed carried result

-- the fault for a fault of the provider
abbrev pub provider_fault : ProviderFault → LoopFault
provider_fault provider.Store = Store
provider_fault provider.Memory = Ended Memory

-- the line of the row with this number: what is said about it
abbrev pub row_line : (number : ℕ) → (said : List ℕ) → List ℕ
row_line number said = decimal number ++ (codes " " ++ (said ++ codes "\n"))
