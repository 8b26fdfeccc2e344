-- A run whose teller isn't known.
use Rattle.std.proofs.Common.{List, Option, None, Result, inl, inr}
use Rattle.journal_core.specs.declared.journals.Journal.{Ghosts}
use Rattle.connector_core.specs.State.{State}
use Rattle.provisioning.specs.Openings.{Opening}
use Rattle.provisioning.specs.Runs.{Done}
use Rattle.provisioning.specs.declared.faults.RunFault.{RunFault}
use Rattle.provisioning.specs.declared.offering.Judged.{Judged}
use Rattle.provisioning.specs.declared.pushing.Tally.{Tally}
use Rattle.provisioning.specs.declared.sources.Sources.{Sources}
use Rattle.provisioning.specs.Carrying.{CarriesBy, SilentlyBy}
use Rattle.provisioning.specs.declared.carrying.Outcome.{Outcome}

module _ {I O J : Type 0} (pushes : (opened : List (Opening I O)) → (old new : State J) → (before after : Option (List Done)) → Result Tally RunFault → Type 0) (g : Ghosts J) (sources : Sources) (opened : List (Opening I O)) (old new : State J) where
  -- nothing is known about the reporter, so any one may take the place of the first
  pub silent : {T : Type 0} (before after : T) (result : Result Outcome RunFault)
      → CarriesBy {T = T} pushes g (λ told. None) (λ told. None) sources opened old new before after result → SilentlyBy pushes g sources old new result
  silent before after result (inl all) = (opened, inl (all.0, tt, all.2, all.3, all.4, all.5, all.6))
  silent before after result (inr part) = (opened, inr part)

  -- a reporter reports by another
  pub told_by : {S T : Type 0} (inner : S → T) (heard : T → Option (List Judged)) (told : T → Option (List Done)) (before after : S) (result : Result Outcome RunFault)
      → CarriesBy pushes g (λ s. heard (inner s)) (λ s. told (inner s)) sources opened old new before after result
      → CarriesBy pushes g heard told sources opened old new (inner before) (inner after) result
  told_by inner heard told before after result (inl all) = inl (all.0, inner all.1, all.2, all.3, all.4, all.5, all.6)
  told_by inner heard told before after result (inr part) = inr part

-- what is true of every push is true of the push of a run
pub carries_as : {I O J T : Type 0} (one other : (opened : List (Opening I O)) → (old new : State J) → (before after : Option (List Done)) → Result Tally RunFault → Type 0)
    → ((opened : List (Opening I O)) (old new : State J) (before after : Option (List Done)) (result : Result Tally RunFault) → one opened old new before after result → other opened old new before after result)
    → (g : Ghosts J) (heard : T → Option (List Judged)) (told : T → Option (List Done)) (sources : Sources) (opened : List (Opening I O)) (old new : State J) (before after : T) (result : Result Outcome RunFault)
    → CarriesBy one g heard told sources opened old new before after result → CarriesBy other g heard told sources opened old new before after result
carries_as one other turns g heard told sources opened old new before after result (inl all) = inl (all.0, all.1, all.2, all.3, all.4, turns opened all.0 new (told all.1) (told after) all.3 all.5, all.6)
carries_as one other turns g heard told sources opened old new before after result (inr part) = inr part
