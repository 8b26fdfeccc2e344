-- Runs of several connectors whose reports and records are printed.
use Rattle.std.specs.Prelude.{◌⊎◌}
use Rattle.std.specs.Prelude.{◌≡◌, ◌+◌, ℕ, zero, suc, Bool, true, false, List, [], ◌∷◌, ◌++◌, Option, Some, None}
use Rattle.std.specs.Prelude.{codes, is_some, length, map}
use Rattle.std.specs.Fmt.{decimal}
use Rattle.std.specs.Io.KnownBytes.{Appends}
use Rattle.std.specs.List.{AllByRecursion}
use Rattle.provider_core.specs.declared.registry.Registry.{Ghosts as Registries}
use Rattle.journal_core.specs.declared.journals.Journal.{Ghosts as Journals}
use Rattle.world_model.specs.Invariant.{Names}
use Rattle.world_model.specs.Several.{Shared, nobody, world_at, run_several, NoneShared, EachItsOwn}
use Rattle.world_model.specs.World.{names as world_names}
use Rattle.world_sim.specs.Lines.{report_text}
use Rattle.world_sim.specs.Following.{EndsTold, RunsTold}
use Rattle.world_sim.specs.Printing.{PrintsReport, ShowsAll, StopsAfter, printed_reports, report_lines}
use Rattle.world_sim.specs.Printing.{settled_lines, view_lines}
use Rattle.world_sim.specs.Several.{FailsToStart, FailsTurn, RunsSeveral, StartsSeveral}
use Rattle.world_sim.specs.Several.{AreAmong, AreSettling, AreSound, IsDoneAt, IsNew, IsRunSeveral, SettlesEach}
use Rattle.world_sim.specs.Several.{seats_of, turns_of}
use Rattle.world_sim.specs.Views.{view}
use Rattle.world_sim.specs.declared.following.TellingFault.{TellingFault}
use Rattle.world_sim.specs.declared.following.TellingFault.TheVariants.{World, Untold}
use Rattle.world_sim.specs.declared.printing.ReportLines.{ReportLines}
use Rattle.world_sim.specs.declared.several.SharedWorld.{SharedWorld}
use Rattle.world_sim.specs.declared.several.Turn.{Turn}
use Rattle.world_sim.specs.declared.several.TurnReport.{TurnReport}
use Rattle.world_sim.specs.declared.several_printing.PrintedSeveral.{PrintedSeveral}
use Rattle.world_sim.specs.declared.settling.Count.{Count}
use Rattle.world_sim.specs.declared.views.View.{View}

-- ---- lines

-- the connector's number, and what its event reports
abbrev pub turn_text : TurnReport → List ℕ
turn_text said = decimal said.connector ++ (codes " " ++ report_text said.report)

-- the lines of the records of connectors, one connector after the other
abbrev pub views_lines : List (List View) → List ℕ
views_lines [] = []
views_lines (views ∷ more) = view_lines views ++ views_lines more

-- ---- what is printed after the turns

-- the records of every connector are settled if that is asked for; otherwise nothing is done
abbrev pub SettlesEachIf : {R J : Type 0} → Registries R → Journals J → (asked : Bool) → (old new : SharedWorld R J)
    → Option Count → Type 0
SettlesEachIf g h true old new (Some count) = SettlesEach g h old new (length (seats_of old)) count.exchanges
SettlesEachIf g h true old new None = ⊥
SettlesEachIf g h false old new (Some count) = ⊥
SettlesEachIf g h false old new None = new ≡ old

-- a look at every record of the side at this place
abbrev pub ShowsAt : {R J : Type 0} → Registries R → Journals J → (old new : SharedWorld R J) → (place : ℕ)
    → List View → Type 0
ShowsAt g h old new place views = IsDoneAt old new place (λ was is. ShowsAll g h was is views)

-- the views of the records of the sides before this place, in what they share
abbrev pub views_of : Shared → (place : ℕ) → List (List View)
views_of s zero = []
views_of s (suc place) =
    views_of s place ++ map (view (world_at s place)) (world_names (world_at s place)) ∷ []

-- a look at every record of the sides before this place: they share what they shared before, and these are the views
pub record ShowsEachSide {R J : Type 0} (g : Registries R) (h : Journals J) (old new : SharedWorld R J) (place : ℕ)
    (views : List (List View)) : Type 0 where
  pub was : AreSound g h new → AreSound g h old
  pub count : length (seats_of new) ≡ length (seats_of old)
  pub is : AreSound g h new → {ours : ℕ → Names} (s : Shared) → AreAmong g h ours old s → AreAmong g h ours new s
  pub shown : AreSound g h new → {ours : ℕ → Names} (s : Shared) → AreAmong g h ours old s → views ≡ views_of s place

-- records were settled if that was asked for, and then shown, each with its line
pub record EndsSeveral {R J : Type 0} (g : Registries R) (h : Journals J) (asked : Bool) (world : SharedWorld R J)
    (before after : Option (List ℕ)) (printed : PrintedSeveral R J) : Type 0 where
  pub count : Option Count
  pub settled : SharedWorld R J
  pub settles : SettlesEachIf g h asked world settled count
  pub shows : ShowsEachSide g h settled printed.world (length (seats_of settled))
      (map (λ views. views.items) printed.views.items)
  pub lines : Appends before after
      (settled_lines count ++ views_lines (map (λ views. views.items) printed.views.items))

-- ---- the whole run

-- runs to convergence of so many sides lead from s to t, if there were any; otherwise t is s
abbrev pub ReachesEach : Shared → (count : ℕ) → Option Count → Shared → Type 0
ReachesEach s count None t = t ≡ s
ReachesEach s count (Some total) t = AreSettling s count total.exchanges t

-- What ran, before records were settled, is the model's run of the turns, with its reports, and the promise holds for
-- each connector; the runs to convergence, if there were any, are the model's; and these are the views of the records
-- of each connector in the end
pub record IsOfSeveral {R J : Type 0} (g : Registries R) (h : Journals J) (ours : ℕ → Names) (base : List ℕ)
    (turns : List Turn) (reports : List TurnReport) (connectors : ℕ) (count : Option Count) (views : List (List View))
    : Type 0 where
  pub ran : SharedWorld R J
  pub run : IsRunSeveral g h ours base turns ran reports
  pub last : Shared
  pub reaches : ReachesEach (run_several nobody (turns_of turns)) connectors count last
  pub shown : views ≡ views_of last connectors

-- What was printed: a line for each turn with its connector's number and its report, the count if settling was asked
-- for, and a line for each record of each connector. If all stores were empty, the provider's open, and all returned
-- what was committed, all this is the model's, whichever records are whose, if no two connectors have a record in
-- common and each source offers rows of its own records alone
pub record PrintsSeveral {R J W : Type 0} (g : Registries R) (h : Journals J) (contents : W → Option (List ℕ))
    (registry : R) (journals : List J) (base : List ℕ) (turns : List Turn) (asked : Bool)
    (before after : ReportLines TurnReport W) (printed : PrintedSeveral R J) : Type 0 where
  pub reports : List TurnReport
  pub count : Option Count
  pub added : after.reports.items ≡ before.reports.items ++ reports
  pub numbers : map (λ (t : TurnReport). t.connector) reports ≡ map (λ (turn : Turn). turn.place + 1) turns
  pub counted : is_some count ≡ asked
  pub lines : Appends (contents before.out) (contents after.out)
      (report_lines turn_text (length before.reports.items + 1) reports
      ++ (settled_lines count ++ views_lines (map (λ views. views.items) printed.views.items)))
  pub so : g.is_faithful registry → g.rows registry ≡ [] → AllByRecursion (IsNew h) journals
      → AreSound g h printed.world → (ours : ℕ → Names) → NoneShared ours → EachItsOwn ours (turns_of turns)
      → IsOfSeveral g h ours base turns reports (length journals) count (map (λ views. views.items) printed.views.items)

-- ---- why a run ended early

-- Why turns ended early: as they do if their reports are told, or after all of them
abbrev pub EndsTurns : {R J W E : Type 0} → Registries R → Journals J → (contents : W → Option (List ℕ))
    → (first : SharedWorld R J) → List Turn → (before after : ReportLines TurnReport W) → TellingFault E → Type 0
EndsTurns g h contents first turns before after fault =
    EndsTold (RunsSeveral g h) (FailsTurn g h) printed_reports (PrintsReport turn_text contents) first turns
    before after fault
    ⊎ StopsAfter
    (λ between ran. RunsTold (RunsSeveral g h) printed_reports (PrintsReport turn_text contents) first ran turns
    before between) after

-- a connector didn't start, and nothing was printed
abbrev pub IsUnstartedSeveral : {J W E : Type 0} → Journals J → List J → (before after : ReportLines TurnReport W)
    → TellingFault E → Type 0
IsUnstartedSeveral h journals before after (World fault) = FailsToStart h journals fault × (after ≡ before)
IsUnstartedSeveral h journals before after (Untold why) = ⊥

-- Why a run ended early: a connector didn't start, or the run ended after some of the turns
abbrev pub EndsPrintingSeveral : {R J W E : Type 0} → Registries R → Journals J → (contents : W → Option (List ℕ)) → R
    → List J → (base : List ℕ) → List Turn → (before after : ReportLines TurnReport W) → TellingFault E → Type 0
EndsPrintingSeveral {R} {J} g h contents registry journals base turns before after fault =
    IsUnstartedSeveral h journals before after fault
    ⊎ ((first : SharedWorld R J) × StartsSeveral g h registry journals base first
    × EndsTurns g h contents first turns before after fault)
