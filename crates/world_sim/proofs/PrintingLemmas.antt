-- Lines that are printed one after the other, and the views of a world's records.
use Rattle.std.proofs.Common.{arith, ◌≡◌, ℕ, suc, ◌+◌, ◌<◌, Bool, true, false, is_some, List, [], ◌∷◌, ◌++◌, Option, Some, None, Result, Ok, Err, IfErr, inr, map, length, take, refl, ap, sym, subst, ◌∙◌, append-nil, append_assoc, length-append}
use Rattle.std.proofs.Math.ListN.{get_or}
use Rattle.std.proofs.Math.Seq.{take-suc}
use Rattle.std.proofs.lemmas.List.{map_push}
use Rattle.std.proofs.KnownBytes.{Appends-nil, Appends-trans}
use Rattle.std.specs.Io.KnownBytes.{Appends}
use Rattle.std.specs.List.{FoldsTo}
use Rattle.scim_key.specs.declared.records.RecordName.{RecordName}
use Rattle.provider_core.specs.declared.registry.Registry.{Ghosts as Registries}
use Rattle.journal_core.specs.declared.journals.Journal.{Ghosts as Journals}
use Rattle.world_model.specs.Invariant.{all_names}
use Rattle.world_model.specs.World.{World, Event, empty, names as world_names, run}
use Rattle.world_sim.specs.Following.{RunsTelling}
use Rattle.world_sim.specs.Lines.{report_text}
use Rattle.world_sim.specs.Printing.{Ends, EndsPrinting, Prints, PrintsReport, Reaches, SettlesIf, ShowsAll, ShowsEach, line_of, lines_of, printed_reports, report_line, report_lines, settled_lines, view_lines}
use Rattle.world_sim.specs.Running.{HasBook, Is, IsAmong, IsSound, Scope, from_empty, is_open, names_in}
use Rattle.world_sim.specs.Views.{Looks, Shows, view}
use Rattle.world_sim.specs.declared.following.TellingFault.{TellingFault}
use Rattle.world_sim.specs.declared.printing.Printed.{Printed}
use Rattle.world_sim.specs.declared.printing.ReportLines.{ReportLines}
use Rattle.world_sim.specs.declared.printing.Whose.{Whose}
use Rattle.world_sim.specs.declared.reports.Report.{Report}
use Rattle.world_sim.specs.declared.settling.Count.{Count}
use Rattle.world_sim.specs.declared.sides.Side.{Side}
use Rattle.world_sim.specs.declared.sides.Side.TheVariants.{Open, Shut}
use Rattle.world_sim.specs.declared.views.View.{View}
use Rattle.world_sim.specs.declared.worlds.World.{World as Running}
use Rattle.world_sim.proofs.Reaching.{is_among}
use Rattle.world_sim.proofs.SettlingLemmas.{done_is}

-- ---- the lines of reports

-- reports that were printed one after the other are their lines
pub lines_printed : {T W : Type 0} (text : T → List ℕ) (contents : W → Option (List ℕ)) (old : ReportLines T W) (reports : List T) (new : ReportLines T W)
    → FoldsTo (PrintsReport text contents) old reports new → Appends (contents old.out) (contents new.out) (report_lines text (length old.reports.items + 1) reports)
lines_printed text contents old [] new done = subst (λ l. Appends (contents old.out) (contents l.out) []) done (Appends-nil (contents old.out))
lines_printed text contents old (report ∷ reports) new (mid, one, rest) =
    let next : length mid.reports.items ≡ length old.reports.items + 1 = ap length one.added ∙ length-append old.reports.items (report ∷ []) in
    Appends-trans (contents old.out) (contents mid.out) (contents new.out) (report_line (length old.reports.items + 1) (text report)) (report_lines text (length old.reports.items + 1 + 1) reports)
    one.line (subst (λ n. Appends (contents mid.out) (contents new.out) (report_lines text (n + 1) reports)) next (lines_printed text contents mid reports new rest))

-- one report more is one line more
pub report_lines-push : {T : Type 0} (text : T → List ℕ) (number : ℕ) (reports : List T) (last : T) → report_lines text number (reports ++ last ∷ []) ≡ report_lines text number reports ++ report_line (number + length reports) (text last)
report_lines-push text number [] last = let same : number + 0 ≡ number = omega arith in append-nil (report_line number (text last)) ∙ ap (λ n. report_line n (text last)) (sym same)
report_lines-push text number (first ∷ reports) last =
    let same : number + 1 + length reports ≡ number + suc (length reports) = omega arith in
    ap (λ l. report_line number (text first) ++ l) (report_lines-push text (number + 1) reports last ∙ ap (λ n. report_lines text (number + 1) reports ++ report_line n (text last)) same)
    ∙ sym (append_assoc (report_line number (text first)) (report_lines text (number + 1) reports) (report_line (number + suc (length reports)) (text last)))

-- ---- the views of records

pub lines_of-push : (of : Whose) (views : List View) (shown : View) → lines_of of (views ++ shown ∷ []) ≡ lines_of of views ++ line_of of shown
lines_of-push of [] shown = append-nil (line_of of shown)
lines_of-push of (first ∷ views) shown = ap (λ l. line_of of first ++ l) (lines_of-push of views shown) ∙ sym (append_assoc (line_of of first) (lines_of of views) (line_of of shown))

module _ {R J : Type 0} (g : Registries R) (h : Journals J) where
  pub none_shown : (r : Running R J) → ShowsEach g h r r [] []
  none_shown r = record { was = λ sound. sound; base = refl; is = λ sound w is. is; shown = λ sound w is. refl }

  pub one_shown : (old mid new : Running R J) (names : List RecordName) (i : ℕ) (name : RecordName) (views : List View) (one : View) → i < length names → name ≡ get_or names i name
      → ShowsEach g h old mid (take i names) views → Shows g h mid new name one → Looks g h mid new → ShowsEach g h old new (take (i + 1) names) (views ++ one ∷ [])
  one_shown old mid new names i name views one less at far shows looks =
      let next : take (i + 1) names ≡ take i names ++ name ∷ [] = (let one_on : i + 1 ≡ suc i = omega arith in ap (λ n. take n names) one_on ∙ take-suc names i name less ∙ ap (λ n. take i names ++ n ∷ []) (sym at)) in
      subst (λ ns. ShowsEach g h old new ns (views ++ one ∷ [])) (sym next) (record {
        was = λ sound. far.was (looks.was sound);
        base = looks.base ∙ far.base;
        is = λ sound w is. looks.is sound w (far.is (looks.was sound) w is);
        shown = λ sound w is. all_of sound w is;
      })
    where
      all_of : IsSound g h new → {scope : Scope} (w : World) → IsAmong g h scope old w → views ++ one ∷ [] ≡ map (view w) (take i names ++ name ∷ [])
      all_of sound {scope} w is =
          ap (λ vs. vs ++ one ∷ []) (far.shown (looks.was sound) w is)
          ∙ ap (λ v. map (view w) (take i names) ++ v ∷ []) (shows sound scope w (far.is (looks.was sound) w is))
          ∙ sym (map_push (view w) (take i names) name)

  -- the names of an open connector are those of each world that runs
  pub names_are : {scope : Scope} (r : Running R J) (w : World) → is_open r.connector ≡ true → IsAmong g h scope r w → names_in h r.connector ≡ world_names w
  names_are r w opened is = of_side r.connector opened is.mirrors.book
    where
      of_side : (side : Side J) → is_open side ≡ true → HasBook side w.book (world_names w) → names_in h side ≡ world_names w
      of_side (Open connector) opened book = book.1
      of_side (Shut journal) opened book = let clash : false ≡ true = opened in absurd (cc)

  pub all_shown : (old new : Running R J) (names : List RecordName) (views : List View) → names ≡ names_in h old.connector → is_open old.connector ≡ true
      → ShowsEach g h old new names views → ShowsAll g h old new views
  all_shown old new names views are opened far = record {
    was = far.was;
    base = far.base;
    is = far.is;
    shown = λ sound w is. far.shown sound w is ∙ ap (map (view w)) (are ∙ names_are old w opened is);
  }

  -- ---- the whole run

  pub settled_was : (asked : Bool) (old new : Running R J) (count : Option Count) → SettlesIf g h asked old new count → IsSound g h new → IsSound g h old
  settled_was true old new (Some count) settles sound = settles.done.runs.was sound
  settled_was true old new None settles sound = absurd settles
  settled_was false old new (Some count) settles sound = absurd settles
  settled_was false old new None settles sound = subst (λ r. IsSound g h r) settles sound

  settled_reaches : (asked : Bool) (old new : Running R J) (count : Option Count) → SettlesIf g h asked old new count → IsSound g h new → (w : World) → Is g h old w
      → (v : World) × Reaches w count v × IsAmong g h (from_empty all_names) new v
  settled_reaches true old new (Some count) settles sound w is = (run w settles.done.events, settles.settling sound w is, done_is g h settles.done sound w (is_among g h old w is))
  settled_reaches true old new None settles sound w is = absurd settles
  settled_reaches false old new (Some count) settles sound w is = absurd settles
  settled_reaches false old new None settles sound w is = (w, refl, subst (λ r. IsAmong g h (from_empty all_names) r w) (sym settles) (is_among g h old w is))

  pub counted : (asked : Bool) (old new : Running R J) (count : Option Count) → SettlesIf g h asked old new count → is_some count ≡ asked
  counted true old new (Some count) settles = refl
  counted true old new None settles = absurd settles
  counted false old new (Some count) settles = absurd settles
  counted false old new None settles = refl

  pub all_printed : {W : Type 0} (contents : W → Option (List ℕ)) (registry : R) (journal : J) (base : List ℕ) (events : List Event) (asked : Bool) (before between after : ReportLines Report W) (ran : Running R J) (printed : Printed R J)
      → RunsTelling g h printed_reports (PrintsReport report_text contents) registry journal base events before between ran
      → Ends g h asked ran (contents between.out) (contents after.out) printed → after.reports ≡ between.reports
      → Prints g h contents registry journal base events asked before after printed
  all_printed contents registry journal base events asked before between after ran printed runs ends same = record {
    reports = runs.run.reports;
    count = ends.count;
    added = ap (λ v. v.items) same ∙ runs.run.tells.added;
    one_each = runs.run.one_each;
    counted = counted asked ran ends.between ends.count ends.settles;
    lines = Appends-trans (contents before.out) (contents between.out) (contents after.out) (report_lines report_text (length before.reports.items + 1) runs.run.reports) (settled_lines ends.count ++ view_lines printed.views.items)
        (lines_printed report_text contents before runs.run.reports between runs.run.tells.done) ends.lines;
    so = λ faithful rows kept sound.
        let at_end = ends.shows.was sound in
        let at_start = settled_was asked ran ends.between ends.count ends.settles at_end in
        let is_run = runs.from_empty faithful rows kept at_start in
        let reached = settled_reaches asked ran ends.between ends.count ends.settles at_end (run empty events) is_run.is in
        record {
          told_so = is_run.told_so;
          last = reached.0;
          reaches = reached.1;
          shown = ends.shows.shown sound reached.0 reached.2;
        };
  }

  -- whatever fails after the reports
  pub stops_after : {W T E : Type 0} (contents : W → Option (List ℕ)) (registry : R) (journal : J) (base : List ℕ) (events : List Event) (before between after : ReportLines Report W) (ran : Running R J) (result : Result T (TellingFault E))
      → RunsTelling g h printed_reports (PrintsReport report_text contents) registry journal base events before between ran → after.reports ≡ between.reports
      → IfErr result (EndsPrinting g h contents registry journal base events before after)
  stops_after contents registry journal base events before between after ran (Ok printed) runs same = tt
  stops_after contents registry journal base events before between after ran (Err fault) runs same = inr (record { between = between; ran = ran; runs = runs; kept = same })
