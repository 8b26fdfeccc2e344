-- Runs whose reports and records are printed.
use Rattle.std.specs.Prelude.{◌≡◌, ◌⊎◌, ◌+◌, ℕ, Bool, true, false, List, [], ◌∷◌, ◌++◌, Option, Some, None, IfSome, is_some}
use Rattle.std.specs.Prelude.{codes, length, map}
use Rattle.std.specs.FinMap as fin
use Rattle.std.specs.Fmt.{decimal}
use Rattle.std.specs.Io.KnownBytes.{Appends}
use Rattle.scim_key.specs.declared.records.RecordName.{RecordName}
use Rattle.provider_core.specs.declared.registry.Registry.{Ghosts as Registries}
use Rattle.journal_core.specs.declared.journals.Journal.{Ghosts as Journals}
use Rattle.world_model.specs.Reports.{reports as model_reports}
use Rattle.world_model.specs.World.{World, Event, empty, names as world_names, run}
use Rattle.world_sim.specs.Events.{report_of}
use Rattle.world_sim.specs.Following.{EndsTelling, RunsTelling}
use Rattle.world_sim.specs.Lines.{count_text, others_text, report_text, view_text}
use Rattle.world_sim.specs.Messages.{message_size}
use Rattle.world_sim.specs.Running.{IsAmong, IsSound, Scope}
use Rattle.world_sim.specs.Settling.{IsSettling, Settles}
use Rattle.world_sim.specs.Views.{view}
use Rattle.world_sim.specs.declared.following.TellingFault.{TellingFault}
use Rattle.world_sim.specs.declared.printing.Printed.{Printed}
use Rattle.world_sim.specs.declared.printing.ReportLines.{ReportLines}
use Rattle.world_sim.specs.declared.printing.Whose.{Whose}
use Rattle.world_sim.specs.declared.printing.Whose.TheVariants as whose
use Rattle.world_sim.specs.declared.reports.Report.{Report}
use Rattle.world_sim.specs.declared.settling.Count.{Count}
use Rattle.world_sim.specs.declared.views.View.{View}
use Rattle.world_sim.specs.declared.worlds.World.{World as Running}

-- ---- lines

-- the line of the report with this number, which says this text
abbrev pub report_line : (number : ℕ) → (text : List ℕ) → List ℕ
report_line number text = decimal number ++ (codes " " ++ (text ++ codes "\n"))

-- the lines of reports of any kind, the first of which has this number; `text` is what a report says
abbrev pub report_lines : {T : Type 0} → (text : T → List ℕ) → (number : ℕ) → List T → List ℕ
report_lines text number [] = []
report_lines text number (report ∷ reports) =
    report_line number (text report) ++ report_lines text (number + 1) reports

-- the line of a run to convergence, if there was one
abbrev pub settled_lines : Option Count → List ℕ
settled_lines None = []
settled_lines (Some count) = count_text count ++ codes "\n"

abbrev pub view_line : View → List ℕ
view_line shown = view_text shown ++ codes "\n"

-- the line of a record that isn't ours
abbrev pub others_line : View → List ℕ
others_line shown = others_text shown ++ codes "\n"

abbrev pub line_of : Whose → View → List ℕ
line_of whose.Ours shown = view_line shown
line_of whose.Others shown = others_line shown

abbrev pub lines_of : Whose → List View → List ℕ
lines_of of [] = []
lines_of of (shown ∷ views) = line_of of shown ++ lines_of of views

abbrev pub view_lines : List View → List ℕ
view_lines views = lines_of whose.Ours views

abbrev pub others_lines : List View → List ℕ
others_lines views = lines_of whose.Others views

-- ---- reports

-- the reports that were printed
abbrev pub printed_reports : {T W : Type 0} → ReportLines T W → List T
printed_reports lines = lines.reports.items

-- One more report was printed, as the next line. `output` is what a report is displayed as, if that is known
pub record PrintsNext {T W : Type 0} (output : T → Option (List ℕ)) (contents : W → Option (List ℕ))
    (old : ReportLines T W) (report : T) (new : ReportLines T W) : Type 0 where
  pub added : new.reports.items ≡ old.reports.items ++ report ∷ []
  pub line : IfSome (output report) (λ text.
      Appends (contents old.out) (contents new.out) (report_line (length old.reports.items + 1) text))

-- the same of reports that say these texts
abbrev pub PrintsReport : {T W : Type 0} → (text : T → List ℕ) → (contents : W → Option (List ℕ))
    → (old : ReportLines T W) → (report : T) → (new : ReportLines T W) → Type 0
PrintsReport text contents = PrintsNext (λ report. Some (text report)) contents

-- ---- what is printed after the reports

-- every record is settled if that is asked for; otherwise nothing is done
abbrev pub SettlesIf : {R J : Type 0} → Registries R → Journals J → (asked : Bool) → (old new : Running R J)
    → Option Count → Type 0
SettlesIf g h true old new (Some count) = Settles g h old new count
SettlesIf g h true old new None = ⊥
SettlesIf g h false old new (Some count) = ⊥
SettlesIf g h false old new None = new ≡ old

-- a look at these records: each world that ran before runs after it, and these are their views
pub record ShowsEach {R J : Type 0} (g : Registries R) (h : Journals J) (old new : Running R J)
    (names : List RecordName) (views : List View) : Type 0 where
  pub was : IsSound g h new → IsSound g h old
  pub base : new.service ≡ old.service
  pub is : IsSound g h new → {scope : Scope} (w : World) → IsAmong g h scope old w → IsAmong g h scope new w
  pub shown : IsSound g h new → {scope : Scope} (w : World) → IsAmong g h scope old w → views ≡ map (view w) names

-- a look at every record: each world that ran before runs after it, and these are the views of its records, in order
pub record ShowsAll {R J : Type 0} (g : Registries R) (h : Journals J) (old new : Running R J) (views : List View)
    : Type 0 where
  pub was : IsSound g h new → IsSound g h old
  pub base : new.service ≡ old.service
  pub is : IsSound g h new → {scope : Scope} (w : World) → IsAmong g h scope old w → IsAmong g h scope new w
  pub shown : IsSound g h new → {scope : Scope} (w : World) → IsAmong g h scope old w
      → views ≡ map (view w) (world_names w)

-- records were settled if that was asked for, and then shown, each with its line
pub record Ends {R J : Type 0} (g : Registries R) (h : Journals J) (asked : Bool) (world : Running R J)
    (before after : Option (List ℕ)) (printed : Printed R J) : Type 0 where
  pub count : Option Count
  pub between : Running R J
  pub settles : SettlesIf g h asked world between count
  pub shows : ShowsAll g h between printed.world printed.views.items
  pub lines : Appends before after (settled_lines count ++ view_lines printed.views.items)

-- ---- the whole run

-- a run to convergence leads from w to v, if there was one; otherwise v is w
abbrev pub Reaches : World → Option Count → World → Type 0
Reaches w None v = v ≡ w
Reaches w (Some count) v = IsSettling w count.exchanges v

-- These are the reports of the model's run of the events; the run to convergence, if there was one, is the model's; and
-- these are the views of the records in the end
pub record IsOf (base : List ℕ) (events : List Event) (reports : List Report) (count : Option Count)
    (views : List View) : Type 0 where
  pub told_so : map report_of reports ≡ model_reports (message_size base) empty events
  pub last : World
  pub reaches : Reaches (run empty events) count last
  pub shown : views ≡ map (view last) (world_names last)

-- What was printed: a line for each event with its report, the count if settling was asked for, and a line for each
-- record. If both stores were empty, the provider's open, and both returned what was committed, all this is the model's
pub record Prints {R J W : Type 0} (g : Registries R) (h : Journals J) (contents : W → Option (List ℕ))
    (registry : R) (journal : J) (base : List ℕ) (events : List Event) (asked : Bool)
    (before after : ReportLines Report W) (printed : Printed R J) : Type 0 where
  pub reports : List Report
  pub count : Option Count
  pub added : after.reports.items ≡ before.reports.items ++ reports
  pub one_each : length reports ≡ length events
  pub counted : is_some count ≡ asked
  pub lines : Appends (contents before.out) (contents after.out)
      (report_lines report_text (length before.reports.items + 1) reports
      ++ (settled_lines count ++ view_lines printed.views.items))
  pub so : g.is_faithful registry → g.rows registry ≡ [] → h.entries journal ≡ fin.empty → IsSound g h printed.world
      → IsOf base events reports count printed.views.items

-- all transitions were made and their reports printed, and something failed after them
pub record StopsAfter {X T W : Type 0} (leads : ReportLines T W → X → Type 0) (after : ReportLines T W) : Type 0 where
  pub between : ReportLines T W
  pub ran : X
  pub runs : leads between ran
  pub kept : after.reports ≡ between.reports

-- Why a run ended early: as it does if its reports are told, or after all of them
abbrev pub EndsPrinting : {R J W E : Type 0} → Registries R → Journals J → (contents : W → Option (List ℕ)) → R → J
    → (base : List ℕ) → List Event → (before after : ReportLines Report W) → TellingFault E → Type 0
EndsPrinting g h contents registry journal base events before after fault =
    EndsTelling g h printed_reports (PrintsReport report_text contents) registry journal base events before after fault
    ⊎ StopsAfter
    (RunsTelling g h printed_reports (PrintsReport report_text contents) registry journal base events before) after
