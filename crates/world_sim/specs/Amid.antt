-- Runs among others: our events, and what others write at the same provider meanwhile.
use Rattle.std.specs.Prelude.{◌≡◌, ◌⊎◌, ℕ, false, List, [], ◌∷◌, ◌++◌, map, codes}
use Rattle.std.specs.FinMap as fin
use Rattle.std.specs.Fmt.{decimal}
use Rattle.std.specs.List.{AllByRecursion}
use Rattle.scim_key.specs.Stores.{HasRisen}
use Rattle.scim_message.specs.Messages.{answer_status}
use Rattle.scim_message.specs.declared.messages.Request.{Request}
use Rattle.scim_resource.specs.Contents.{content_name}
use Rattle.source_csv.specs.Records.{row_name}
use Rattle.source_csv.specs.declared.rows.Row.{Row}
use Rattle.provider_core.specs.Stories.{step}
use Rattle.provider_core.specs.declared.registry.Registry.{Ghosts as Registries}
use Rattle.journal_core.specs.declared.journals.Journal.{Ghosts as Journals}
use Rattle.world_model.specs.Invariant.{Names}
use Rattle.world_model.specs.Others.{Act, Ours, Theirs, HeadlineAmong, LeavesAlone, OfOurs, SafeAmong, acts, run_among}
use Rattle.world_model.specs.Reports.{Report, report}
use Rattle.world_model.specs.Resetting.{HeadlineFrom}
use Rattle.world_model.specs.Resetting as resets
use Rattle.world_model.specs.Safe.{Onward, rows as world_rows}
use Rattle.world_model.specs.World.{World, Message, empty}
use Rattle.world_sim.specs.Acts.{FailsToMake, write_of}
use Rattle.world_sim.specs.Events.{event_of, events_of, report_of}
use Rattle.world_sim.specs.Imaging.{row_request}
use Rattle.world_sim.specs.Lines.{report_text}
use Rattle.world_sim.specs.Messages.{message_size}
use Rattle.world_sim.specs.Running.{FailsOurs, IsAmong, IsSound, Makes, RunsFromEmpty, Scope, StartsAt, journal_in}
use Rattle.world_sim.specs.Transitions.{FailsAfter}
use Rattle.world_sim.specs.declared.acting.Act.{Act as ActOf}
use Rattle.world_sim.specs.declared.acting.Act.TheVariants as deeds
use Rattle.world_sim.specs.declared.acting.ActReport.{ActReport as ActReportOf}
use Rattle.world_sim.specs.declared.acting.ActReport.TheVariants as told
use Rattle.world_sim.specs.declared.events.Event.{Event as EventOf}
use Rattle.world_sim.specs.declared.imaging.RowRequest.{RowRequest}
use Rattle.world_sim.specs.declared.imaging.RowRequest.TheVariants as requests
use Rattle.world_sim.specs.declared.reports.Report.{Report as ReportOf}
use Rattle.world_sim.specs.declared.reports.WorldFault.{WorldFault}
use Rattle.world_sim.specs.declared.reports.WorldFault.TheVariants.{Memory}
use Rattle.world_sim.specs.declared.worlds.World.{World as Running}

-- ---- acts

-- what others ask for by a row, as acts: there is none if the row waits
abbrev pub asked_by : RowRequest → List Act
asked_by (requests.Asks request) = Theirs request ∷ []
asked_by (requests.Waits member) = []

-- The model's act, in this world: what others write is a creation, or the replacement of what has the name. What they
-- write of a row is its image over the provider's rows; if the row waits, there is no act
abbrev pub act_of : World → ActOf → List Act
act_of w (deeds.Ours event) = Ours (event_of event) ∷ []
act_of w (deeds.Asks request) = Theirs request ∷ []
act_of w (deeds.Writes content) = Theirs (write_of (world_rows w) content) ∷ []
act_of w (deeds.WritesRow row) = asked_by (row_request (world_rows w) row)
act_of w (deeds.Holds row) = asked_by (row_request (world_rows w) row)

-- The world after an act
abbrev pub after_act : World → ActOf → World
after_act w act = run_among w (act_of w act)

-- the model's acts, one after the other: each in the world that it comes to
abbrev pub acts_of : World → List ActOf → List Act
acts_of w [] = []
acts_of w (act ∷ later) = act_of w act ++ acts_of (after_act w act) later

-- our source offers rows of our records alone, and others leave our records alone
abbrev pub IsApartFrom : Names → ActOf → Type 0
IsApartFrom ours (deeds.Ours event) = OfOurs ours (event_of event)
IsApartFrom ours (deeds.Asks request) = LeavesAlone ours request
IsApartFrom ours (deeds.Writes content) = ours (content_name content) ≡ false
IsApartFrom ours (deeds.WritesRow row) = ours (row_name row) ≡ false
IsApartFrom ours (deeds.Holds row) = ⊥

-- ---- the start

-- what the provider holds at the start, by rows whose images somebody wrote, whosever records these are
abbrev pub held_by : List Row → World
held_by held = run_among empty (acts_of empty (map deeds.Holds held))

-- the start after an act: what is held belongs to it
abbrev pub moved : Scope → World → ActOf → Scope
moved scope w (deeds.Ours event) = scope
moved scope w (deeds.Asks request) = scope
moved scope w (deeds.Writes content) = scope
moved scope w (deeds.WritesRow row) = scope
moved scope w (deeds.Holds row) = record { ours = scope.ours; start = after_act w (deeds.Holds row) }

abbrev pub moved_by : Scope → World → List ActOf → Scope
moved_by scope w [] = scope
moved_by scope w (act ∷ later) = moved_by (moved scope w act) (after_act w act) later

-- the act keeps apart; what is held belongs to the start, before which nothing happened
abbrev pub IsApartIn : Scope → World → ActOf → Type 0
IsApartIn scope w (deeds.Ours event) = OfOurs scope.ours (event_of event)
IsApartIn scope w (deeds.Asks request) = LeavesAlone scope.ours request
IsApartIn scope w (deeds.Writes content) = scope.ours (content_name content) ≡ false
IsApartIn scope w (deeds.WritesRow row) = scope.ours (row_name row) ≡ false
IsApartIn scope w (deeds.Holds row) = w ≡ scope.start

abbrev pub AreApart : Scope → World → List ActOf → Type 0
AreApart scope w [] = Unit {0}
AreApart scope w (act ∷ later) = IsApartIn scope w act × AreApart (moved scope w act) (after_act w act) later

-- ---- reports

-- the report of an event of ours, the status of the answer to somebody else, or the member that their row waits for
pub data ActReport : Type 0 where
  Of_ours : (report : Report) → ActReport
  Of_others : (status : ℕ) → ActReport
  Of_waiting : (member : List ℕ) → ActReport

abbrev pub act_report_of : ActReportOf → ActReport
act_report_of (told.Ours report) = Of_ours (report_of report)
act_report_of (told.Others status) = Of_others status
act_report_of (told.Waits member) = Of_waiting member

abbrev pub others_report : World → Request → ActReport
others_report w request = Of_others (answer_status (step w.entries request).answer)

-- the report of what others ask for by a row
abbrev pub row_report : World → RowRequest → ActReport
row_report w (requests.Asks request) = others_report w request
row_report w (requests.Waits member) = Of_waiting member

-- The report of an act
abbrev pub act_report : (size : Message → ℕ) → World → ActOf → ActReport
act_report size w (deeds.Ours event) = Of_ours (report size w (event_of event))
act_report size w (deeds.Asks request) = others_report w request
act_report size w (deeds.Writes content) = others_report w (write_of (world_rows w) content)
act_report size w (deeds.WritesRow row) = row_report w (row_request (world_rows w) row)
act_report size w (deeds.Holds row) = row_report w (row_request (world_rows w) row)

abbrev pub act_reports : (size : Message → ℕ) → World → List ActOf → List ActReport
act_reports size w [] = []
act_reports size w (act ∷ later) = act_report size w act ∷ act_reports size (after_act w act) later

-- the printed report
abbrev pub act_text : ActReportOf → List ℕ
act_text (told.Ours report) = report_text report
act_text (told.Others status) = codes "other " ++ decimal status
act_text (told.Waits member) = codes "waits " ++ member

-- ---- one act

-- One act was done: for each world that ran before it, the world after the act runs now, if our source offers rows of
-- our records alone and others leave our records alone, or if it belongs to the start
abbrev pub Does : {R J : Type 0} → Registries R → Journals J → (old new : Running R J) → ActOf → ActReportOf → Type 0
Does g h old new act said =
    Makes g h old new (λ scope w. IsApartIn scope w act → IsAmong g h (moved scope w act) new (after_act w act))
    (λ w. act_report (message_size old.service) w act) act_report_of said

-- what others do wasn't done, and the connector and our messages are unchanged
pub record FailsTheirs {R J : Type 0} (g : Registries R) (h : Journals J) (old new : Running R J)
    (made : World → World) (fault : WorldFault) : Type 0 where
  pub fails : FailsToMake g h old new made fault
  pub connector : new.connector ≡ old.connector
  pub sent : new.sent ≡ old.sent

-- One act failed
abbrev pub FailsToDo : {R J : Type 0} → Registries R → Journals J → (old new : Running R J) → ActOf → WorldFault
    → Type 0
FailsToDo g h old new (deeds.Ours event) fault = FailsOurs g h old new (event_of event) fault
FailsToDo g h old new (deeds.Asks request) fault = FailsTheirs g h old new (λ w. acts w (Theirs request)) fault
FailsToDo g h old new (deeds.Writes content) fault =
    FailsTheirs g h old new (λ w. acts w (Theirs (write_of (g.rows old.provider) content))) fault
FailsToDo g h old new (deeds.WritesRow row) fault =
    FailsTheirs g h old new (λ w. after_act w (deeds.WritesRow row)) fault
FailsToDo g h old new (deeds.Holds row) fault = FailsTheirs g h old new (λ w. after_act w (deeds.Holds row)) fault

-- ---- runs

-- acts one after the other, with their reports
pub record RunsAmong {R J : Type 0} (g : Registries R) (h : Journals J) (old new : Running R J)
    (all : List ActOf) (said : List ActReportOf) : Type 0 where
  pub was : IsSound g h new → IsSound g h old
  pub base : new.service ≡ old.service
  pub stays_open : IsSound g h new → g.is_faithful old.provider → g.is_faithful new.provider
  pub journal_open : IsSound g h new → h.is_faithful (journal_in old.connector)
      → h.is_faithful (journal_in new.connector)
  pub is : IsSound g h new → {scope : Scope} (w : World) → IsAmong g h scope old w → AreApart scope w all
      → IsAmong g h (moved_by scope w all) new (run_among w (acts_of w all))
  pub told_so : IsSound g h new → {scope : Scope} (w : World) → IsAmong g h scope old w → AreApart scope w all
      → map act_report_of said ≡ act_reports (message_size old.service) w all

-- acts up to one that fails, from a world that starts
abbrev pub FailsAtAct : {R J : Type 0} → Registries R → Journals J → R → J → (base : List ℕ) → List ActOf → WorldFault
    → Type 0
FailsAtAct {R} {J} g h registry journal base all fault =
    (first : Running R J) × StartsAt g h registry journal base first
    × FailsAfter (RunsAmong g h) (FailsToDo g h) first all fault

-- Why a run failed: a fault of the journal's store was counted at the start, or an act failed, or memory ran out
abbrev pub EndsRunAmong : {R J : Type 0} → Registries R → Journals J → R → J → (base : List ℕ) → List ActOf
    → WorldFault → Type 0
EndsRunAmong {R} {J} g h registry journal base all fault =
    (fault ≡ Memory) ⊎ (((left : J) × HasRisen (h.faults journal) (h.faults left))
    ⊎ FailsAtAct g h registry journal base all fault)

-- After each act it was safe for our records, and from each moment to each later one nothing was lost and the headline
-- held for our records
pub record IsSafeRun (ours : Names) (all : List ActOf) : Type 0 where
  pub safe : (early late : List ActOf) → early ++ late ≡ all → SafeAmong ours (run_among empty (acts_of empty early))
  pub onward : (early middle late : List ActOf) → (early ++ middle) ++ late ≡ all
      → Onward (run_among empty (acts_of empty early)) (run_among empty (acts_of empty (early ++ middle)))
  pub headline : (early middle late : List ActOf) → (early ++ middle) ++ late ≡ all
      → HeadlineAmong ours (run_among empty (acts_of empty early))
      (run_among empty (acts_of empty (early ++ middle)))

-- What ran is the model's run of the acts: its rows, its book, its messages with their bytes, and its reports. The
-- provider held images of these rows at the start. From each moment after that to each later one the headline held for
-- our records, as it does from any start (`headline`). If nothing was held, all of `IsSafeRun` is so (`from_empty`)
pub record IsRunAmong {R J : Type 0} (g : Registries R) (h : Journals J) (ours : Names) (at : List ℕ)
    (held : List Row) (later : List ActOf) (ran : Running R J) (said : List ActReportOf) : Type 0 where
  pub base : ran.service ≡ at
  pub opened : g.is_faithful ran.provider
  pub journal_open : h.is_faithful (journal_in ran.connector)
  pub is : IsAmong g h (record { ours = ours; start = held_by held }) ran
      (run_among (held_by held) (acts_of (held_by held) later))
  pub told_so : map act_report_of said ≡ act_reports (message_size at) empty (map deeds.Holds held ++ later)
  pub headline : (early middle late : List ActOf) → (early ++ middle) ++ late ≡ later
      → HeadlineFrom ours (held_by held) (map resets.Does (acts_of (held_by held) early))
      (run_among (held_by held) (acts_of (held_by held) early))
      (run_among (held_by held) (acts_of (held_by held) (early ++ middle)))
  pub from_empty : held ≡ [] → IsSafeRun ours later

-- the same over empty stores, if the provider's is open and both are sound in the end, and if others leave our records
-- alone, whichever these are, once the provider holds what it holds at the start
abbrev pub RunsAmongFromEmpty : {R J : Type 0} → Registries R → Journals J → R → J → (base : List ℕ)
    → List ActOf → (ran : Running R J) → List ActReportOf → Type 0
RunsAmongFromEmpty g h registry journal base all ran said =
    g.is_faithful registry → g.rows registry ≡ [] → h.entries journal ≡ fin.empty → IsSound g h ran
    → (ours : Names) (held : List Row) (later : List ActOf) → map deeds.Holds held ++ later ≡ all
    → AllByRecursion (IsApartFrom ours) later → IsRunAmong g h ours base held later ran said

-- Without others: a run of our events among others is a run of our events
abbrev pub RunsAlone : {R J : Type 0} → Registries R → Journals J → Type 0
RunsAlone {R} {J} g h = (registry : R) (journal : J) (base : List ℕ) (events : List EventOf) (ran : Running R J)
    (said : List ReportOf)
    → RunsAmongFromEmpty g h registry journal base (map deeds.Ours events) ran (map told.Ours said)
    → RunsFromEmpty g h registry journal base (events_of events) ran said
