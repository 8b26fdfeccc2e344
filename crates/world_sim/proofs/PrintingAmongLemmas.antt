-- Lines of acts that are printed one after the other, and the views of records that aren't ours.
use Rattle.std.proofs.Common.{◌≡◌, ℕ, ◌+◌, Bool, true, false, List, [], ◌++◌, Option, Some, None, Result, Ok, Err, IfErr, inr, length, refl, ap, sym, subst, ◌∙◌}
use Rattle.std.proofs.KnownBytes.{Appends-trans}
use Rattle.scim_key.specs.declared.records.RecordName.{RecordName}
use Rattle.provider_core.specs.declared.registry.Registry.{Ghosts as Registries}
use Rattle.journal_core.specs.declared.journals.Journal.{Ghosts as Journals}
use Rattle.source_csv.specs.declared.rows.Row.{Row}
use Rattle.mapping.specs.Settling.{IsSettleOrder}
use Rattle.world_model.specs.Others.{run_among}
use Rattle.world_model.specs.World.{World, empty, run}
use Rattle.world_sim.specs.Amid.{act_text, acts_of, held_by}
use Rattle.world_sim.specs.Following.{RunsTellingAmong}
use Rattle.world_sim.specs.Printing.{PrintsReport, SettlesIf, ShowsEach, others_lines, printed_reports, report_lines, settled_lines, view_lines}
use Rattle.world_sim.specs.PrintingAmong.{AreOfOthers, EndsAmong, EndsPrintingAmong, PrintsAmong, ReachesAmong, ShowsOthers}
use Rattle.world_sim.specs.Running.{IsAmong, IsSound, Scope, is_open, names_in}
use Rattle.world_sim.specs.Strangers.{strangers}
use Rattle.world_sim.specs.declared.acting.Act.{Act}
use Rattle.world_sim.specs.declared.acting.ActReport.{ActReport}
use Rattle.world_sim.specs.declared.following.TellingFault.{TellingFault}
use Rattle.world_sim.specs.declared.printing.ReportLines.{ReportLines}
use Rattle.world_sim.specs.declared.printing_among.PrintedAmong.{PrintedAmong}
use Rattle.world_sim.specs.declared.settling.Count.{Count}
use Rattle.world_sim.specs.declared.views.View.{View}
use Rattle.world_sim.specs.declared.worlds.World.{World as Running}
use Rattle.world_sim.proofs.PrintingLemmas.{counted, lines_printed, names_are, settled_was}
use Rattle.world_sim.proofs.SettlingLemmas.{done_is}

module _ {R J : Type 0} (g : Registries R) (h : Journals J) where
  pub others_shown : (old new : Running R J) (all : List Act) (names : List RecordName) (views : List View) → IsSettleOrder (strangers (names_in h old.connector) all) names → is_open old.connector ≡ true
      → ShowsEach g h old new names views → ShowsOthers g h old new all views
  others_shown old new all names views ordered opened far = record {
    was = far.was;
    is = far.is;
    shown = λ sound w is. record {
      names = names;
      ordered = subst (λ known. IsSettleOrder (strangers known all) names) (names_are g h old w opened is) ordered;
      shown = far.shown sound w is;
    };
  }

  -- ---- the whole run

  settled_reaches : (held : List Row) (asked : Bool) (old new : Running R J) (count : Option Count) → SettlesIf g h asked old new count → IsSound g h new → {scope : Scope} (w : World) → IsAmong g h scope old w
      → (held ≡ [] → scope.start ≡ empty) → (v : World) × ReachesAmong held w count v × IsAmong g h scope new v
  settled_reaches held true old new (Some count) settles sound w is none = (
    run w settles.done.events,
    record {
      events = settles.done.events;
      only = settles.done.only;
      is = refl;
      settling = λ nothing room. settles.among sound w is (none nothing) room;
      found = λ made u small s. settles.found sound w is made u small s;
    },
    done_is g h settles.done sound w is,
  )
  settled_reaches held true old new None settles sound w is none = absurd settles
  settled_reaches held false old new (Some count) settles sound w is none = absurd settles
  settled_reaches held false old new None settles sound {scope} w is none = (w, refl, subst (λ r. IsAmong g h scope r w) (sym settles) is)

  pub all_printed : {W : Type 0} (contents : W → Option (List ℕ)) (registry : R) (journal : J) (base : List ℕ) (all : List Act) (asked : Bool) (before between after : ReportLines ActReport W) (ran : Running R J) (printed : PrintedAmong R J)
      → RunsTellingAmong g h printed_reports (PrintsReport act_text contents) registry journal base all before between ran
      → EndsAmong g h all asked ran (contents between.out) (contents after.out) printed → after.reports ≡ between.reports
      → PrintsAmong g h contents registry journal base all asked before after printed
  all_printed contents registry journal base all asked before between after ran printed runs ends same = record {
    reports = runs.run.reports;
    count = ends.count;
    added = ap (λ v. v.items) same ∙ runs.run.tells.added;
    one_each = runs.run.one_each;
    counted = counted g h asked ran ends.settled ends.count ends.settles;
    lines = Appends-trans (contents before.out) (contents between.out) (contents after.out) (report_lines act_text (length before.reports.items + 1) runs.run.reports)
        (settled_lines ends.count ++ (view_lines printed.views.items ++ others_lines printed.others.items))
        (lines_printed act_text contents before runs.run.reports between runs.run.tells.done) ends.lines;
    ran = ran;
    was = λ sound. sound_ran sound;
    promise = runs.from_empty;
    so = λ faithful rows kept sound ours held later split apart.
        let is_run = runs.from_empty faithful rows kept (sound_ran sound) ours held later split apart in
        let start = held_by held in
        let reached = settled_reaches held asked ran ends.settled ends.count ends.settles (sound_settled sound) (run_among start (acts_of start later)) is_run.is (λ none. ap held_by none) in
        record {
          last = reached.0;
          reaches = reached.1;
          shown = ends.shows.shown (ends.shows_others.was sound) reached.0 reached.2;
          of_others = subst (λ acts. AreOfOthers reached.0 acts printed.others.items) (sym split) (ends.shows_others.shown sound reached.0 (ends.shows.is (ends.shows_others.was sound) reached.0 reached.2));
        };
  }
    where
      sound_settled : IsSound g h printed.world → IsSound g h ends.settled
      sound_settled sound = ends.shows.was (ends.shows_others.was sound)

      sound_ran : IsSound g h printed.world → IsSound g h ran
      sound_ran sound = settled_was g h asked ran ends.settled ends.count ends.settles (sound_settled sound)

  -- whatever fails after the reports
  pub stops_after : {W T E : Type 0} (contents : W → Option (List ℕ)) (registry : R) (journal : J) (base : List ℕ) (all : List Act) (before between after : ReportLines ActReport W) (ran : Running R J) (result : Result T (TellingFault E))
      → RunsTellingAmong g h printed_reports (PrintsReport act_text contents) registry journal base all before between ran → after.reports ≡ between.reports
      → IfErr result (EndsPrintingAmong g h contents registry journal base all before after)
  stops_after contents registry journal base all before between after ran (Ok printed) runs same = tt
  stops_after contents registry journal base all before between after ran (Err fault) runs same = inr (record { between = between; ran = ran; runs = runs; kept = same })
