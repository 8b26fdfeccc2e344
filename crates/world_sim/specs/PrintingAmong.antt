-- Runs among others whose reports and records are printed.
use Rattle.std.specs.Prelude.{◌≡◌, ◌⊎◌, ◌+◌, ◌<◌, ◌^◌, ℕ, Bool, List, [], ◌++◌, Option, Some, None, is_some}
use Rattle.std.specs.Prelude.{length, map}
use Rattle.std.specs.FinMap as fin
use Rattle.std.specs.Io.KnownBytes.{Appends}
use Rattle.std.specs.List.{AllByRecursion}
use Rattle.scim_key.specs.declared.records.RecordName.{RecordName}
use Rattle.provider_core.specs.declared.registry.Registry.{Ghosts as Registries}
use Rattle.journal_core.specs.declared.journals.Journal.{Ghosts as Journals}
use Rattle.source_csv.specs.declared.rows.Row.{Row}
use Rattle.mapping.specs.Settling.{IsSettleOrder}
use Rattle.world_model.specs.Invariant.{Names}
use Rattle.world_model.specs.Others.{run_among}
use Rattle.world_model.specs.Room.{HasRoom}
use Rattle.world_model.specs.World.{World, Event, names as world_names, run}
use Rattle.world_sim.specs.Amid.{IsApartFrom, RunsAmongFromEmpty, act_text, acts_of, held_by}
use Rattle.world_sim.specs.Following.{EndsTellingAmong, RunsTellingAmong}
use Rattle.world_sim.specs.Printing.{PrintsReport, SettlesIf, ShowsAll, StopsAfter, others_lines, printed_reports}
use Rattle.world_sim.specs.Printing.{report_lines, settled_lines, view_lines}
use Rattle.world_sim.specs.Running.{IsAmong, IsSound, Scope}
use Rattle.world_sim.specs.Settling.{IsSendOrDeliver, IsSettling}
use Rattle.world_sim.specs.Strangers.{strangers}
use Rattle.world_sim.specs.Views.{view}
use Rattle.world_sim.specs.declared.acting.Act.{Act}
use Rattle.world_sim.specs.declared.acting.Act.TheVariants.{Holds}
use Rattle.world_sim.specs.declared.acting.ActReport.{ActReport}
use Rattle.world_sim.specs.declared.following.TellingFault.{TellingFault}
use Rattle.world_sim.specs.declared.printing.ReportLines.{ReportLines}
use Rattle.world_sim.specs.declared.printing_among.PrintedAmong.{PrintedAmong}
use Rattle.world_sim.specs.declared.settling.Count.{Count}
use Rattle.world_sim.specs.declared.views.View.{View}
use Rattle.world_sim.specs.declared.worlds.World.{World as Running}

-- ---- what is printed after the reports

-- these are the views of the records that others wrote by rows and that aren't ours: users by key, then groups by key
pub record AreOfOthers (w : World) (all : List Act) (views : List View) : Type 0 where
  pub names : List RecordName
  pub ordered : IsSettleOrder (strangers (world_names w) all) names
  pub shown : views ≡ map (view w) names

-- a look at those records: each world that ran before runs after it
pub record ShowsOthers {R J : Type 0} (g : Registries R) (h : Journals J) (old new : Running R J) (all : List Act)
    (views : List View) : Type 0 where
  pub was : IsSound g h new → IsSound g h old
  pub is : IsSound g h new → {scope : Scope} (w : World) → IsAmong g h scope old w → IsAmong g h scope new w
  pub shown : IsSound g h new → {scope : Scope} (w : World) → IsAmong g h scope old w → AreOfOthers w all views

-- our records were settled if that was asked for, and then ours and those of others shown, each with its line
pub record EndsAmong {R J : Type 0} (g : Registries R) (h : Journals J) (all : List Act) (asked : Bool)
    (world : Running R J) (before after : Option (List ℕ)) (printed : PrintedAmong R J) : Type 0 where
  pub count : Option Count
  pub settled : Running R J
  pub shown : Running R J
  pub settles : SettlesIf g h asked world settled count
  pub shows : ShowsAll g h settled shown printed.views.items
  pub shows_others : ShowsOthers g h shown printed.world all printed.others.items
  pub lines : Appends before after
      (settled_lines count ++ (view_lines printed.views.items ++ others_lines printed.others.items))

-- ---- the whole run

-- Sends and deliveries lead from w to v. If nothing was held at the start and the provider has room for our records,
-- they are a run to convergence; from any start, they are the run to convergence if there is one
pub record IsSettlingAmong (held : List Row) (w : World) (exchanges : ℕ) (v : World) : Type 0 where
  pub events : List Event
  pub only : AllByRecursion IsSendOrDeliver events
  pub is : v ≡ run w events
  pub settling : held ≡ [] → HasRoom w → IsSettling w exchanges v
  pub found : (made : ℕ) (u : World) → made < 2 ^ 32 → IsSettling w made u → (exchanges ≡ made) × (v ≡ u)

-- the same if settling was asked for; otherwise v is w
abbrev pub ReachesAmong : List Row → World → Option Count → World → Type 0
ReachesAmong held w None v = v ≡ w
ReachesAmong held w (Some count) v = IsSettlingAmong held w count.exchanges v

-- These are the views of our records, and of the others that others wrote by rows, in the world after the model's run
-- of the acts from the start with these rows, settled if that was asked for
pub record IsOfAmong (held : List Row) (later : List Act) (count : Option Count) (views others : List View) : Type 0
  where
    pub last : World
    pub reaches : ReachesAmong held (run_among (held_by held) (acts_of (held_by held) later)) count last
    pub shown : views ≡ map (view last) (world_names last)
    pub of_others : AreOfOthers last (map Holds held ++ later) others

-- What was printed: a line for each act with its report, the count if settling was asked for, a line for each record of
-- ours, and one for each other record that others wrote by a row. `ran` is the world after the acts: if both stores
-- were empty, the provider's open, and both returned what was committed, the promise among others holds of it, and the
-- reports are those of the model's run (`promise`). If others left our records alone, whichever these are, the run to
-- convergence and the views are the model's too (`so`). Either is so from any start that the first acts hold
pub record PrintsAmong {R J W : Type 0} (g : Registries R) (h : Journals J) (contents : W → Option (List ℕ))
    (registry : R) (journal : J) (base : List ℕ) (all : List Act) (asked : Bool)
    (before after : ReportLines ActReport W) (printed : PrintedAmong R J) : Type 0 where
  pub reports : List ActReport
  pub count : Option Count
  pub added : after.reports.items ≡ before.reports.items ++ reports
  pub one_each : length reports ≡ length all
  pub counted : is_some count ≡ asked
  pub lines : Appends (contents before.out) (contents after.out)
      (report_lines act_text (length before.reports.items + 1) reports
      ++ (settled_lines count ++ (view_lines printed.views.items ++ others_lines printed.others.items)))
  pub ran : Running R J
  pub was : IsSound g h printed.world → IsSound g h ran
  pub promise : RunsAmongFromEmpty g h registry journal base all ran reports
  pub so : g.is_faithful registry → g.rows registry ≡ [] → h.entries journal ≡ fin.empty → IsSound g h printed.world
      → (ours : Names) (held : List Row) (later : List Act) → map Holds held ++ later ≡ all
      → AllByRecursion (IsApartFrom ours) later
      → IsOfAmong held later count printed.views.items printed.others.items

-- Why a run ended early: as it does if its reports are told, or after all of them
abbrev pub EndsPrintingAmong : {R J W E : Type 0} → Registries R → Journals J → (contents : W → Option (List ℕ)) → R
    → J → (base : List ℕ) → List Act → (before after : ReportLines ActReport W) → TellingFault E → Type 0
EndsPrintingAmong g h contents registry journal base all before after fault =
    EndsTellingAmong g h printed_reports (PrintsReport act_text contents) registry journal base all before after fault
    ⊎ StopsAfter
    (RunsTellingAmong g h printed_reports (PrintsReport act_text contents) registry journal base all before) after
