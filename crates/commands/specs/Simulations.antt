-- What a `simulate` does, its exit status, and why it ends early.
use Rattle.std.specs.Prelude.{◌≡◌, ◌⊎◌, ℕ, Bool, List, Option, Some, length, map}
use Rattle.std.specs.declared.io.Error.{Error}
use Rattle.std.specs.List.{list_all}
use Rattle.provider_core.specs.declared.registry.Registry.{Ghosts as Registries}
use Rattle.journal_core.specs.declared.journals.Journal.{Ghosts as Journals}
use Rattle.world_model.specs.World.{Event}
use Rattle.source_csv.specs.Fields.{Record}
use Rattle.world_sim.specs.Printing.{EndsPrinting, Prints}
use Rattle.world_sim.specs.Random.{seed_draws_turns}
use Rattle.world_sim.specs.Schedules.{ReadsFiles}
use Rattle.world_sim.specs.SeveralPrinting.{EndsPrintingSeveral, PrintsSeveral}
use Rattle.world_sim.specs.declared.following.TellingFault.{TellingFault}
use Rattle.world_sim.specs.declared.printing.Printed.{Printed}
use Rattle.world_sim.specs.declared.printing.ReportLines.{ReportLines}
use Rattle.world_sim.specs.declared.reports.Report.{Report}
use Rattle.world_sim.specs.declared.several.Turn.{Turn}
use Rattle.world_sim.specs.declared.several.TurnReport.{TurnReport}
use Rattle.world_sim.specs.declared.several_printing.PrintedSeveral.{PrintedSeveral}
use Rattle.commands.specs.Statuses.{is_confirmed, several_status, simulated_status, telling_fault}
use Rattle.commands.specs.declared.status.CommandFault.{CommandFault}
use Rattle.commands.specs.declared.status.CommandFault.TheVariants.{Memory}
use Rattle.commands.specs.declared.status.Status.{Status}

-- The lines of the reports, of the run to convergence and of the records were printed, and the status is theirs
pub record Simulates {R J W : Type 0} (g : Registries R) (h : Journals J) (contents : W → Option (List ℕ))
    (registry : R) (journal : J) (base : List ℕ) (events : List Event) (asked : Bool)
    (before after : ReportLines Report W) (status : Status) : Type 0 where
  pub printed : Printed R J
  pub prints : Prints g h contents registry journal base events asked before after printed
  pub status_is : status ≡ simulated_status after.reports.items printed.views.items

-- Why it ended early, and what was printed before that
pub record EndsSimulation {R J W : Type 0} (g : Registries R) (h : Journals J) (contents : W → Option (List ℕ))
    (registry : R) (journal : J) (base : List ℕ) (events : List Event) (before after : ReportLines Report W)
    (fault : CommandFault) : Type 0 where
  pub why : TellingFault Error
  pub ends : EndsPrinting g h contents registry journal base events before after why
  pub is : fault ≡ telling_fault why

-- these are the turns that a seed draws for so many connectors
abbrev pub AreDrawn : (seed connectors count : ℕ) → List Turn → Type 0
AreDrawn seed connectors count turns = (records_in : List ℕ → List Record) → ReadsFiles records_in
    → map Some turns ≡ seed_draws_turns records_in seed connectors count

-- The turns are those of the seed. The lines of their reports, of the runs to convergence and of the records of each
-- connector were printed, and the status is theirs
pub record SimulatesSeveral {R J W : Type 0} (g : Registries R) (h : Journals J) (contents : W → Option (List ℕ))
    (registry : R) (journals : List J) (base : List ℕ) (seed count : ℕ) (asked : Bool)
    (before after : ReportLines TurnReport W) (status : Status) : Type 0 where
  pub turns : List Turn
  pub drawn : AreDrawn seed (length journals) count turns
  pub printed : PrintedSeveral R J
  pub prints : PrintsSeveral g h contents registry journals base turns asked before after printed
  pub status_is : status ≡ several_status after.reports.items
      (list_all (λ views. list_all is_confirmed views.items) printed.views.items)

-- the turns are those of the seed, and their run ended early
pub record EndsDrawn {R J W : Type 0} (g : Registries R) (h : Journals J) (contents : W → Option (List ℕ))
    (registry : R) (journals : List J) (base : List ℕ) (seed count : ℕ) (before after : ReportLines TurnReport W)
    (fault : CommandFault) : Type 0 where
  pub turns : List Turn
  pub drawn : AreDrawn seed (length journals) count turns
  pub why : TellingFault Error
  pub ends : EndsPrintingSeveral g h contents registry journals base turns before after why
  pub is : fault ≡ telling_fault why

-- Why it ended early, and what was printed before that: memory ran out before there were turns, or the run of the turns
-- ended early
abbrev pub EndsSimulationOfSeveral : {R J W : Type 0} → Registries R → Journals J → (contents : W → Option (List ℕ))
    → R → List J → (base : List ℕ) → (seed count : ℕ) → (before after : ReportLines TurnReport W) → CommandFault
    → Type 0
EndsSimulationOfSeveral g h contents registry journals base seed count before after fault =
    ((fault ≡ Memory) × (after ≡ before))
    ⊎ EndsDrawn g h contents registry journals base seed count before after fault
