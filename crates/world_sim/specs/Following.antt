-- Runs whose reports are told as they come.
use Rattle.std.specs.Prelude.{◌≡◌, ◌⊎◌, ℕ, List, [], ◌∷◌, ◌++◌, length}
use Rattle.std.specs.List.{FoldsTo}
use Rattle.provider_core.specs.declared.registry.Registry.{Ghosts as Registries}
use Rattle.journal_core.specs.declared.journals.Journal.{Ghosts as Journals}
use Rattle.world_model.specs.World.{Event}
use Rattle.world_sim.specs.Amid.{FailsToDo, RunsAmong, RunsAmongFromEmpty}
use Rattle.world_sim.specs.Running.{FailsOurs, Runs, RunsFromEmpty, StartsAt}
use Rattle.world_sim.specs.Sides.{CountsWorldFault}
use Rattle.world_sim.specs.Transitions.{FailsAfter}
use Rattle.world_sim.specs.declared.acting.Act.{Act}
use Rattle.world_sim.specs.declared.acting.ActReport.{ActReport}
use Rattle.world_sim.specs.declared.following.TellingFault.{TellingFault}
use Rattle.world_sim.specs.declared.following.TellingFault.TheVariants.{World, Untold}
use Rattle.world_sim.specs.declared.reports.Report.{Report}
use Rattle.world_sim.specs.declared.reports.WorldFault.{WorldFault}
use Rattle.world_sim.specs.declared.reports.WorldFault.TheVariants.{Memory}
use Rattle.world_sim.specs.declared.worlds.World.{World as Running}

-- ---- what was told

-- These reports were told, one after the other, after those that were told before. `told` is what was told so far, and
-- `does` what else the telling of one report does
pub record Tells {F T : Type 0} (told : F → List T) (does : F → T → F → Type 0) (old new : F)
    (reports : List T) : Type 0 where
  pub added : told new ≡ told old ++ reports
  pub done : FoldsTo does old reports new

-- a report couldn't be told: it isn't among those that were
pub record Misses {F T : Type 0} (told : F → List T) (does : F → T → F → Type 0) (old new : F)
    (reports : List T) : Type 0 where
  pub between : F
  pub tells : Tells told does old between reports
  pub same : told new ≡ told between

-- why a report wasn't told, where nothing failed in the world: it isn't among those that were
abbrev pub IsUntold : {F T E : Type 0} → (told : F → List T) → (before after : F) → TellingFault E → Type 0
IsUntold told before after (World fault) = ⊥
IsUntold told before after (Untold why) = told after ≡ told before

-- ---- one transition

-- it was made and its report told
pub record Follows {W D T F : Type 0} (steps : W → W → D → T → Type 0) (told : F → List T) (does : F → T → F → Type 0)
    (old new : W) (next : D) (before after : F) : Type 0 where
  pub report : T
  pub makes : steps old new next report
  pub added : told after ≡ told before ++ report ∷ []
  pub done : does before report after

-- it was made, and its report couldn't be told
pub record MakesUntold {W D T F : Type 0} (steps : W → W → D → T → Type 0) (told : F → List T) (old new : W) (next : D)
    (before after : F) : Type 0 where
  pub report : T
  pub makes : steps old new next report
  pub same : told after ≡ told before

-- why a run ended at it: it failed, and nothing was told, or its report couldn't be told
abbrev pub EndsAt : {W D T F E : Type 0} → (makes : W → W → D → T → Type 0) → (fails : W → W → D → WorldFault → Type 0)
    → (told : F → List T) → (old new : W) → D → (before after : F) → TellingFault E → Type 0
EndsAt makes fails told old new next before after (World fault) = fails old new next fault × (after ≡ before)
EndsAt makes fails told old new next before after (Untold why) = MakesUntold makes told old new next before after

-- ---- a run

-- Transitions were made, one after the other, and their reports were told: one for each, in this order, and nothing else
pub record RunsTold {W D T F : Type 0} (leads : W → W → List D → List T → Type 0) (told : F → List T)
    (does : F → T → F → Type 0) (first ran : W) (all : List D) (before after : F) : Type 0 where
  pub reports : List T
  pub one_each : length reports ≡ length all
  pub runs : leads first ran all reports
  pub tells : Tells told does before after reports

-- a transition failed, and the reports of those before it were told
pub record FailsTold {W D T F : Type 0} (leads : W → W → List D → List T → Type 0)
    (breaks : W → W → D → WorldFault → Type 0) (told : F → List T) (does : F → T → F → Type 0) (first : W) (all : List D)
    (before after : F) (fault : WorldFault) : Type 0 where
  pub fails : FailsAfter leads breaks first all fault
  pub one_each : length fails.reports ≡ length fails.early
  pub tells : Tells told does before after fails.reports

-- a transition was made whose report couldn't be told, and the reports of those before it were told
pub record StopsTold {W D T F : Type 0} (leads : W → W → List D → List T → Type 0) (told : F → List T)
    (does : F → T → F → Type 0) (first : W) (all : List D) (before after : F) : Type 0 where
  pub last : W
  pub early : List D
  pub next : D
  pub late : List D
  pub reports : List T
  pub report : T
  pub split : all ≡ early ++ next ∷ late
  pub runs : leads first last (early ++ next ∷ []) (reports ++ report ∷ [])
  pub one_each : length reports ≡ length early
  pub misses : Misses told does before after reports

-- why a run ended early, and what was told of it
abbrev pub EndsTold : {W D T F E : Type 0} → (runs : W → W → List D → List T → Type 0)
    → (fails : W → W → D → WorldFault → Type 0) → (told : F → List T) → (does : F → T → F → Type 0) → (first : W)
    → List D → (before after : F) → TellingFault E → Type 0
EndsTold runs fails told does first all before after (World fault) =
    FailsTold runs fails told does first all before after fault
EndsTold runs fails told does first all before after (Untold why) = StopsTold runs told does first all before after

-- ---- a run from a world that starts

-- The run of a world that starts so, and what it promises
pub record RunsFrom {W D T F : Type 0} (begins : W → Type 0) (leads : W → W → List D → List T → Type 0)
    (promise : W → List T → Type 0) (told : F → List T) (does : F → T → F → Type 0) (all : List D) (before after : F)
    (ran : W) : Type 0 where
  pub first : W
  pub starts : begins first
  pub run : RunsTold leads told does first ran all before after
  pub from_empty : promise ran run.reports

-- the world didn't start, and nothing was told. A fault of the journal's store was counted
pub record FailsUnstarted {J F : Type 0} (h : Journals J) (journal : J) (before after : F) (fault : WorldFault)
    : Type 0 where
  pub left : J
  pub counts : CountsWorldFault (h.faults journal) (h.faults left) fault
  pub untold : after ≡ before

abbrev pub IsUnstarted : {J F E : Type 0} → Journals J → J → (before after : F) → TellingFault E → Type 0
IsUnstarted h journal before after (World fault) = FailsUnstarted h journal before after fault
IsUnstarted h journal before after (Untold why) = ⊥

-- the world started so, and its run ended early
abbrev pub EndsFrom : {W D T F E : Type 0} → (starts : W → Type 0) → (runs : W → W → List D → List T → Type 0)
    → (fails : W → W → D → WorldFault → Type 0) → (told : F → List T) → (does : F → T → F → Type 0) → List D
    → (before after : F) → TellingFault E → Type 0
EndsFrom {W} starts runs fails told does all before after fault =
    (first : W) × starts first × EndsTold runs fails told does first all before after fault

-- The events were made, one after the other, in a world that started with connector and provider open, and their
-- reports were told
abbrev pub RunsTelling : {R J F : Type 0} → Registries R → Journals J → (told : F → List Report)
    → (does : F → Report → F → Type 0) → R → J → (base : List ℕ) → List Event → (before after : F) → Running R J
    → Type 0
RunsTelling g h told does registry journal base events before after ran =
    RunsFrom (StartsAt g h registry journal base) (Runs g h) (RunsFromEmpty g h registry journal base events)
    told does events before after ran

-- Why such a run ended early, and what was told of it
abbrev pub EndsTelling : {R J F E : Type 0} → Registries R → Journals J → (told : F → List Report)
    → (does : F → Report → F → Type 0) → R → J → (base : List ℕ) → List Event → (before after : F) → TellingFault E
    → Type 0
EndsTelling g h told does registry journal base events before after fault =
    IsUnstarted h journal before after fault
    ⊎ EndsFrom (StartsAt g h registry journal base) (Runs g h) (FailsOurs g h) told does events before after fault

-- The same of acts
abbrev pub RunsTellingAmong : {R J F : Type 0} → Registries R → Journals J → (told : F → List ActReport)
    → (does : F → ActReport → F → Type 0) → R → J → (base : List ℕ) → List Act → (before after : F) → Running R J
    → Type 0
RunsTellingAmong g h told does registry journal base all before after ran =
    RunsFrom (StartsAt g h registry journal base) (RunsAmong g h) (RunsAmongFromEmpty g h registry journal base all)
    told does all before after ran

-- Why a run among others ended early, and what was told of it
abbrev pub EndsTellingAmong : {R J F E : Type 0} → Registries R → Journals J → (told : F → List ActReport)
    → (does : F → ActReport → F → Type 0) → R → J → (base : List ℕ) → List Act → (before after : F) → TellingFault E
    → Type 0
EndsTellingAmong g h told does registry journal base all before after fault =
    IsUnstarted h journal before after fault
    ⊎ EndsFrom (StartsAt g h registry journal base) (RunsAmong g h) (FailsToDo g h) told does all before after fault

-- the fault of a run whose reports are kept: a report that couldn't be kept is out of memory
abbrev pub run_fault : {E : Type 0} → TellingFault E → WorldFault
run_fault (World fault) = fault
run_fault (Untold why) = Memory
