-- Runs among others: one act, one act more, and from empty stores.
use Rattle.std.proofs.Common.{◌≡◌, ◌+◌, ℕ, false, List, [], ◌∷◌, ◌++◌, Option, Some, None, Result, Ok, Err, IfErr, IfOk, OnOk, map, refl, ap, sym, subst, inl, ◌∙◌, append-nil}
use Rattle.std.proofs.lemmas.List.{append_assoc, map-append, map_push}
use Rattle.std.specs.FinMap as fin
use Rattle.std.specs.List.{AllByRecursion}
use Rattle.scim_key.specs.Bases.{IsBase}
use Rattle.scim_message.specs.Messages.{answer_status}
use Rattle.scim_message.specs.declared.messages.Request.{Request}
use Rattle.scim_resource.specs.Contents.{content_name}
use Rattle.scim_resource.specs.Rows.{StoredRecord}
use Rattle.scim_resource.specs.declared.contents.Content.{Content}
use Rattle.source_csv.specs.Records.{IsRow, row_name}
use Rattle.source_csv.specs.Rows.{GroupFields}
use Rattle.source_csv.specs.declared.rows.Row.{Row}
use Rattle.source_csv.specs.declared.rows.Row.TheVariants.{User, Group}
use Rattle.mapping.specs.Images.{group_image, image_by, user_image}
use Rattle.mapping.specs.Ready.{ready}
use Rattle.mapping.specs.declared.ids.Ready.{Ready}
use Rattle.mapping.specs.declared.ids.Ready.TheVariants.{Ids, Waits}
use Rattle.provider_core.specs.Rows.{row_named}
use Rattle.provider_core.specs.Stories.{step}
use Rattle.provider_core.specs.declared.registry.Registry.{Ghosts as Registries}
use Rattle.journal_core.specs.declared.journals.Journal.{Ghosts as Journals}
use Rattle.world_model.specs.Invariant.{Names, all_names}
use Rattle.world_model.specs.Others.{Ours, Theirs, HeadlineAmong, IsApart, KeepsApart, LeavesAlone, acts, run_among}
use Rattle.world_model.specs.Healing.{IsStart}
use Rattle.world_model.specs.Reports.{Report, report, reports}
use Rattle.world_model.specs.Resetting.{HeadlineFrom, StayApart, run_through}
use Rattle.world_model.specs.Resetting as resets
use Rattle.world_model.specs.Safe.{Onward, rows as world_rows}
use Rattle.world_model.specs.World.{World, Message, empty, happens, run}
use Rattle.world_model.proofs.Headlines.{headline_holds, headline_holds_among}
use Rattle.world_model.proofs.Invariant.{all_of_ours}
use Rattle.world_model.proofs.Onwards.{always_onward, always_onward_among, among-append}
use Rattle.world_model.proofs.Others.{without_others}
use Rattle.world_model.proofs.Safety.{always_safe, always_safe_among}
use Rattle.world_model.proofs.Starting.{headline_from_any_start, without_resets}
use Rattle.world_sim.specs.Acts.{Answers, Leads, write_of, write_request}
use Rattle.world_sim.specs.Amid.{ActReport, Of_ours, Of_others, Of_waiting, AreApart, Does, FailsToDo, IsApartFrom, IsApartIn, IsRunAmong, IsSafeRun, RunsAlone, RunsAmong, RunsAmongFromEmpty, act_of, act_report, act_report_of, act_reports, acts_of, after_act, asked_by, held_by, moved, moved_by, row_report}
use Rattle.world_sim.specs.Events.{event_of, events_of, report_of}
use Rattle.world_sim.specs.Imaging.{id_in, request_told, row_request}
use Rattle.world_sim.specs.Messages.{message_size}
use Rattle.world_sim.specs.Fitting.{IsFitStart}
use Rattle.world_sim.specs.Running.{Happens, HoldsOneOf, IsAmong, IsSound, Mirrors, Scope, Starts, journal_in}
use Rattle.world_sim.specs.declared.acting.Act.{Act as ActOf}
use Rattle.world_sim.specs.declared.acting.Act.TheVariants as deeds
use Rattle.world_sim.specs.declared.acting.ActReport.{ActReport as ActReportOf}
use Rattle.world_sim.specs.declared.acting.ActReport.TheVariants as told
use Rattle.world_sim.specs.declared.events.Event.{Event as EventOf}
use Rattle.world_sim.specs.declared.imaging.RowRequest.{RowRequest}
use Rattle.world_sim.specs.declared.imaging.RowRequest.TheVariants as requests
use Rattle.world_sim.specs.declared.reports.Report.{Report as ReportOf}
use Rattle.world_sim.specs.declared.reports.WorldFault.{WorldFault}
use Rattle.world_sim.specs.declared.reports.WorldFault.TheVariants.{Memory}
use Rattle.world_sim.specs.declared.worlds.World.{World as Running}
use Rattle.world_sim.proofs.Acts.{IsRead, looked, looked_excuse, sound_old, unknown_now}
use Rattle.world_sim.proofs.Given.{does_apart}
use Rattle.world_sim.proofs.Reaching.{begun, is_at, is_of_ours}
use Rattle.world_sim.proofs.Starts.{fit_held}
use Rattle.world_sim.proofs.WholeRuns.{all_front}

-- ---- the model's acts

write_apart : (ours : Names) (found : Option StoredRecord) (content : Content) → ours (content_name content) ≡ false → LeavesAlone ours (write_request found content)
write_apart ours None content apart = apart
write_apart ours (Some row) content apart = apart

-- what is asked for by a row is written under the row's name
group_apart : (ours : Names) (row : GroupFields) (held : Option StoredRecord) (found : Ready) → ours (row_name (Group row)) ≡ false
    → KeepsApart ours (asked_by (request_told (Group row) held (image_by found row)))
group_apart ours row held (Ids ids) apart = (write_apart ours held (group_image ids row) apart, tt)
group_apart ours row held (Waits place) apart = tt

row_apart : (ours : Names) (rows : List StoredRecord) (row : Row) → ours (row_name row) ≡ false → KeepsApart ours (asked_by (row_request rows row))
row_apart ours rows (User row) apart = (write_apart ours (row_named (row_name (User row)) rows) (user_image row) apart, tt)
row_apart ours rows (Group row) apart = group_apart ours row (row_named (row_name (Group row)) rows) (ready (id_in rows) row.members) apart

apart_act : (ours : Names) (w : World) (act : ActOf) → IsApartFrom ours act → KeepsApart ours (act_of w act)
apart_act ours w (deeds.Ours event) apart = (apart, tt)
apart_act ours w (deeds.Asks request) apart = (apart, tt)
apart_act ours w (deeds.Writes content) apart = (write_apart ours (row_named (content_name content) (world_rows w)) content apart, tt)
apart_act ours w (deeds.WritesRow row) apart = row_apart ours (world_rows w) row apart
apart_act ours w (deeds.Holds row) apart = absurd apart

all_both : {X : Type 0} (P : X → Type 0) (xs ys : List X) → AllByRecursion P xs → AllByRecursion P ys → AllByRecursion P (xs ++ ys)
all_both P [] ys front back = back
all_both P (x ∷ xs) ys front back = (front.0, all_both P xs ys front.1 back)

apart_acts : (ours : Names) (w : World) (all : List ActOf) → AllByRecursion (IsApartFrom ours) all → KeepsApart ours (acts_of w all)
apart_acts ours w [] apart = tt
apart_acts ours w (act ∷ all) apart = all_both (IsApart ours) (act_of w act) (acts_of (after_act w act) all) (apart_act ours w act apart.0) (apart_acts ours (after_act w act) all apart.1)

among-more : (w : World) (early : List ActOf) (act : ActOf)
    → run_among w (acts_of w (early ++ act ∷ [])) ≡ after_act (run_among w (acts_of w early)) act
among-more w [] act = ap (run_among w) (append-nil (act_of w act))
among-more w (a ∷ early) act =
    among-append w (act_of w a) (acts_of (after_act w a) (early ++ act ∷ []))
    ∙ among-more (after_act w a) early act
    ∙ ap (λ v. after_act v act) (sym (among-append w (act_of w a) (acts_of (after_act w a) early)))

reports-more : (size : Message → ℕ) (w : World) (early : List ActOf) (act : ActOf)
    → act_reports size w (early ++ act ∷ []) ≡ act_reports size w early ++ act_report size (run_among w (acts_of w early)) act ∷ []
reports-more size w [] act = refl
reports-more size w (a ∷ early) act =
    ap (λ rs. act_report size w a ∷ rs) (reports-more size (after_act w a) early act)
    ∙ ap (λ v. act_report size w a ∷ (act_reports size (after_act w a) early ++ act_report size v act ∷ [])) (sym (among-append w (act_of w a) (acts_of (after_act w a) early)))

acts-append : (w : World) (early late : List ActOf) → acts_of w (early ++ late) ≡ acts_of w early ++ acts_of (run_among w (acts_of w early)) late
acts-append w [] late = refl
acts-append w (a ∷ early) late =
    let rest = acts_of (after_act w a) early in
    ap (λ l. act_of w a ++ l) (acts-append (after_act w a) early late)
    ∙ sym (append_assoc (act_of w a) rest (acts_of (run_among (after_act w a) rest) late))
    ∙ ap (λ v. (act_of w a ++ rest) ++ acts_of v late) (sym (among-append w (act_of w a) rest))

-- ---- acts that keep apart, and those of the start

front_apart : (scope : Scope) (w : World) (early late : List ActOf) → AreApart scope w (early ++ late) → AreApart scope w early
front_apart scope w [] late apart = tt
front_apart scope w (a ∷ early) late apart = (apart.0, front_apart (moved scope w a) (after_act w a) early late apart.1)

last_apart : (scope : Scope) (w : World) (early : List ActOf) (act : ActOf) → AreApart scope w (early ++ act ∷ []) → IsApartIn (moved_by scope w early) (run_among w (acts_of w early)) act
last_apart scope w [] act apart = apart.0
last_apart scope w (a ∷ early) act apart =
    subst (λ v. IsApartIn (moved_by (moved scope w a) (after_act w a) early) v act) (sym (among-append w (act_of w a) (acts_of (after_act w a) early)))
    (last_apart (moved scope w a) (after_act w a) early act apart.1)

moved-more : (scope : Scope) (w : World) (early : List ActOf) (act : ActOf) → moved_by scope w (early ++ act ∷ []) ≡ moved (moved_by scope w early) (run_among w (acts_of w early)) act
moved-more scope w [] act = refl
moved-more scope w (a ∷ early) act =
    moved-more (moved scope w a) (after_act w a) early act
    ∙ ap (λ v. moved (moved_by (moved scope w a) (after_act w a) early) v act) (sym (among-append w (act_of w a) (acts_of (after_act w a) early)))

-- after the start
later_apart : (scope : Scope) (w : World) (later : List ActOf) → AllByRecursion (IsApartFrom scope.ours) later → AreApart scope w later
later_apart scope w [] apart = tt
later_apart scope w (deeds.Ours event ∷ later) apart = (apart.0, later_apart scope (after_act w (deeds.Ours event)) later apart.1)
later_apart scope w (deeds.Asks request ∷ later) apart = (apart.0, later_apart scope (after_act w (deeds.Asks request)) later apart.1)
later_apart scope w (deeds.Writes content ∷ later) apart = (apart.0, later_apart scope (after_act w (deeds.Writes content)) later apart.1)
later_apart scope w (deeds.WritesRow row ∷ later) apart = (apart.0, later_apart scope (after_act w (deeds.WritesRow row)) later apart.1)
later_apart scope w (deeds.Holds row ∷ later) apart = absurd apart.0

later_moved : (scope : Scope) (w : World) (later : List ActOf) → AllByRecursion (IsApartFrom scope.ours) later → moved_by scope w later ≡ scope
later_moved scope w [] apart = refl
later_moved scope w (deeds.Ours event ∷ later) apart = later_moved scope (after_act w (deeds.Ours event)) later apart.1
later_moved scope w (deeds.Asks request ∷ later) apart = later_moved scope (after_act w (deeds.Asks request)) later apart.1
later_moved scope w (deeds.Writes content ∷ later) apart = later_moved scope (after_act w (deeds.Writes content)) later apart.1
later_moved scope w (deeds.WritesRow row ∷ later) apart = later_moved scope (after_act w (deeds.WritesRow row)) later apart.1
later_moved scope w (deeds.Holds row ∷ later) apart = absurd apart.0

abbrev scope_at : Names → World → Scope
scope_at ours start = record { ours = ours; start = start }

held_apart : (ours : Names) (start : World) (held : List Row) (later : List ActOf) → AllByRecursion (IsApartFrom ours) later → AreApart (scope_at ours start) start (map deeds.Holds held ++ later)
held_apart ours start [] later apart = later_apart (scope_at ours start) start later apart
held_apart ours start (row ∷ held) later apart = (refl, held_apart ours (after_act start (deeds.Holds row)) held later apart)

held_moved : (ours : Names) (start : World) (held : List Row) (later : List ActOf) → AllByRecursion (IsApartFrom ours) later
    → moved_by (scope_at ours start) start (map deeds.Holds held ++ later) ≡ scope_at ours (run_among start (acts_of start (map deeds.Holds held)))
held_moved ours start [] later apart = later_moved (scope_at ours start) start later apart
held_moved ours start (row ∷ held) later apart =
    let next = after_act start (deeds.Holds row) in
    held_moved ours next held later apart ∙ ap (scope_at ours) (sym (among-append start (act_of start (deeds.Holds row)) (acts_of next (map deeds.Holds held))))

held_then : (held : List Row) (later : List ActOf) → run_among empty (acts_of empty (map deeds.Holds held ++ later)) ≡ run_among (held_by held) (acts_of (held_by held) later)
held_then held later =
    ap (run_among empty) (acts-append empty (map deeds.Holds held) later) ∙ among-append empty (acts_of empty (map deeds.Holds held)) (acts_of (held_by held) later)

-- ---- what is promised of runs

module _ (ours : Names) (later : List ActOf) (apart : AllByRecursion (IsApartFrom ours) later) where
  front_of : (early late : List ActOf) → early ++ late ≡ later → AllByRecursion (IsApartFrom ours) early
  front_of early late split = all_front (IsApartFrom ours) early late (subst (AllByRecursion (IsApartFrom ours)) (sym split) apart)

  safe_run : IsSafeRun ours later
  safe_run = record {
    safe = λ early late split. always_safe_among ours (acts_of empty early) (apart_acts ours empty early (front_of early late split));
    onward = λ early middle late split. subst (λ l. Onward (run_among empty (acts_of empty early)) (run_among empty l)) (sym (acts-append empty early middle))
        (always_onward_among (acts_of empty early) (acts_of (run_among empty (acts_of empty early)) middle));
    headline = λ early middle late split. subst (λ l. HeadlineAmong ours (run_among empty (acts_of empty early)) (run_among empty l)) (sym (acts-append empty early middle))
        (headline_holds_among ours (acts_of empty early) (acts_of (run_among empty (acts_of empty early)) middle)
        (subst (KeepsApart ours) (acts-append empty early middle) (apart_acts ours empty (early ++ middle) (front_of (early ++ middle) late split))));
  }

  -- from any start
  headline_at : (start : World) → IsStart start → (early middle late : List ActOf) → (early ++ middle) ++ late ≡ later
      → HeadlineFrom ours start (map resets.Does (acts_of start early)) (run_among start (acts_of start early)) (run_among start (acts_of start (early ++ middle)))
  headline_at start is_start early middle late split =
      let before = acts_of start early in
      let after = acts_of (run_among start before) middle in
      let both = acts-append start early middle in
      let all_apart = subst (KeepsApart ours) both (apart_acts ours start (early ++ middle) (front_of (early ++ middle) late split)) in
      let stay = subst (StayApart ours) (map-append resets.Does before after) (does_apart ours (before ++ after) all_apart) in
      let raw = headline_from_any_start ours start (map resets.Does before) (map resets.Does after) is_start stay in
      let same = ap (run_through start) (sym (map-append resets.Does before after)) ∙ without_resets start (before ++ after) ∙ ap (run_among start) (sym both) in
      subst (λ v. HeadlineFrom ours start (map resets.Does before) (run_among start before) v) same
      (subst (λ u. HeadlineFrom ours start (map resets.Does before) u (run_through start (map resets.Does before ++ map resets.Does after))) (without_resets start before) raw)

-- ---- without others

alone_acts : (w : World) (events : List EventOf) → acts_of w (map deeds.Ours events) ≡ map Ours (events_of events)
alone_acts w [] = refl
alone_acts w (event ∷ events) = ap (λ l. Ours (event_of event) ∷ l) (alone_acts (happens w (event_of event)) events)

alone_apart : (events : List EventOf) → AllByRecursion (IsApartFrom all_names) (map deeds.Ours events)
alone_apart [] = tt
alone_apart (event ∷ events) = (all_of_ours (event_of event), alone_apart events)

-- the reports of our events among these
abbrev ours_among : List ActReport → List Report
ours_among [] = []
ours_among (Of_ours report ∷ said) = report ∷ ours_among said
ours_among (Of_others status ∷ said) = ours_among said
ours_among (Of_waiting member ∷ said) = ours_among said

alone_said : (said : List ReportOf) → ours_among (map act_report_of (map told.Ours said)) ≡ map report_of said
alone_said [] = refl
alone_said (report ∷ said) = ap (λ l. report_of report ∷ l) (alone_said said)

alone_reports : (size : Message → ℕ) (w : World) (events : List EventOf) → ours_among (act_reports size w (map deeds.Ours events)) ≡ reports size w (events_of events)
alone_reports size w [] = refl
alone_reports size w (event ∷ events) = ap (λ l. report size w (event_of event) ∷ l) (alone_reports size (happens w (event_of event)) events)

module _ {R J : Type 0} (g : Registries R) (h : Journals J) where
  -- ---- one act

  pub does_ours : (old new : Running R J) (event : EventOf) (said : ReportOf) → Happens g h old new (event_of event) said → Does g h old new (deeds.Ours event) (told.Ours said)
  does_ours old new event said m = record {
    was = m.was;
    base = m.base;
    stays_open = m.stays_open;
    journal_open = m.journal_open;
    is = λ sound w is own. m.is sound w is own;
    report = λ sound w is. ap Of_ours (m.report sound w is);
  }

  pub does_asks : (old new : Running R J) (request : Request) (status : ℕ) → new.service ≡ old.service → new.connector ≡ old.connector → Answers g h old new request status
      → Does g h old new (deeds.Asks request) (told.Others status)
  does_asks old new request status base connector a = record {
    was = a.was;
    base = base;
    stays_open = a.stays_open;
    journal_open = λ sound faithful. subst (λ s. h.is_faithful (journal_in s)) (sym connector) faithful;
    is = λ sound w is alone. a.among sound w is alone;
    report = λ sound w is. ap Of_others (a.answer sound w is.mirrors);
  }

  pub does_writes : (old new : Running R J) (content : Content) (status : ℕ) → new.service ≡ old.service → new.connector ≡ old.connector → Answers g h old new (write_of (g.rows old.provider) content) status
      → Does g h old new (deeds.Writes content) (told.Others status)
  does_writes old new content status base connector a = record {
    was = a.was;
    base = base;
    stays_open = a.stays_open;
    journal_open = λ sound faithful. subst (λ s. h.is_faithful (journal_in s)) (sym connector) faithful;
    is = λ sound w is apart. after sound w is apart;
    report = λ sound w is. ap Of_others (a.answer sound w is.mirrors ∙ ap (λ rows. answer_status (step w.entries (write_of rows content)).answer) (is.mirrors.rows (a.was_open sound)));
  }
    where
      after : IsSound g h new → {scope : Scope} (w : World) → IsAmong g h scope old w → scope.ours (content_name content) ≡ false → IsAmong g h scope new (acts w (Theirs (write_of (world_rows w) content)))
      after sound {scope} w is apart =
          let made = a.among sound w is (write_apart scope.ours (row_named (content_name content) (g.rows old.provider)) content apart) in
          is_at g h new (acts w (Theirs (write_of (g.rows old.provider) content))) (acts w (Theirs (write_of (world_rows w) content)))
          (ap (λ rows. acts w (Theirs (write_of rows content))) (sym (is.mirrors.rows (a.was_open sound)))) made

  -- out of memory before anything is done
  pub writes_unread : (r : Running R J) (content : Content) → FailsToDo g h r r (deeds.Writes content) Memory
  writes_unread r content = record {
    fails = record {
      was = λ sound. sound;
      is = λ sound known w m. m;
      leaves = λ sound w m. record { rows = λ found holds. inl (m.found found holds); entries = λ found holds. inl (m.kept found holds) };
      rows_unknown = λ w m. m;
      excused = refl;
    };
    connector = refl;
    sent = refl;
  }

  -- ---- a row that others write

  module _ (old : Running R J) (mid : R) (read : IsRead g old.provider mid) (row : Row) where
    abbrev pub midway : Running R J
    midway = record old { provider = mid }

    is_midway : IsSound g h midway → {scope : Scope} (w : World) → IsAmong g h scope old w → IsAmong g h scope midway w
    is_midway sound w is = record { mirrors = looked g h old mid read sound w is.mirrors; base = is.base; reached = is.reached }

    module _ (asks : RowRequest) (finds : g.is_faithful mid → asks ≡ row_request (g.rows old.provider) row) where
      is_asked : IsSound g h midway → (w : World) → Mirrors g h old w → asks ≡ row_request (world_rows w) row
      is_asked sound w m = finds (read.opened sound.registry) ∙ ap (λ rows. row_request rows row) (m.rows (read.was (read.opened sound.registry)))

    pub row_waits : (member : List ℕ) → (g.is_faithful mid → requests.Waits member ≡ row_request (g.rows old.provider) row) → Does g h old midway (deeds.WritesRow row) (told.Waits member)
    row_waits member finds = record {
      was = λ sound. sound_old g h old mid read.honest sound;
      base = refl;
      stays_open = λ sound faithful. read.opened sound.registry;
      journal_open = λ sound faithful. faithful;
      is = λ sound w is apart. after sound w is;
      report = λ sound w is. ap (row_report w) (is_asked (requests.Waits member) finds sound w is.mirrors);
    }
      where
        after : IsSound g h midway → {scope : Scope} (w : World) → IsAmong g h scope old w → IsAmong g h scope midway (after_act w (deeds.WritesRow row))
        after sound {scope} w is = subst (λ asks. IsAmong g h scope midway (run_among w (asked_by asks))) (is_asked (requests.Waits member) finds sound w is.mirrors) (is_midway sound w is)

    module _ (new : Running R J) (request : Request) (finds : g.is_faithful mid → requests.Asks request ≡ row_request (g.rows old.provider) row) where
      pub row_written : (said : ActReportOf) → Does g h midway new (deeds.Asks request) said → Does g h old new (deeds.WritesRow row) said
      row_written said a = record {
        was = λ sound. sound_old g h old mid read.honest (a.was sound);
        base = a.base;
        stays_open = λ sound faithful. a.stays_open sound (read.opened (a.was sound).registry);
        journal_open = λ sound faithful. a.journal_open sound faithful;
        is = λ sound w is apart. after sound w is apart;
        report = λ sound w is. a.report sound w (is_midway (a.was sound) w is) ∙ ap (row_report w) (is_asked (requests.Asks request) finds (a.was sound) w is.mirrors);
      }
        where
          after : IsSound g h new → {scope : Scope} (w : World) → IsAmong g h scope old w → scope.ours (row_name row) ≡ false → IsAmong g h scope new (after_act w (deeds.WritesRow row))
          after sound {scope} w is apart =
              let asked = is_asked (requests.Asks request) finds (a.was sound) w is.mirrors in
              let alone = subst (λ asks. KeepsApart scope.ours (asked_by asks)) (sym asked) (row_apart scope.ours (world_rows w) row apart) in
              subst (λ asks. IsAmong g h scope new (run_among w (asked_by asks))) asked (a.is sound w (is_midway (a.was sound) w is) alone.0)

      pub row_unwritten : (fault : WorldFault) → FailsToDo g h midway new (deeds.Asks request) fault → FailsToDo g h old new (deeds.WritesRow row) fault
      row_unwritten fault f = record {
        fails = record {
          was = λ sound. sound_old g h old mid read.honest (f.fails.was sound);
          is = λ sound known w m. f.fails.is sound known w (looked g h old mid read (f.fails.was sound) w m);
          leaves = λ sound w m. subst (λ asks. HoldsOneOf g h new w (run_among w (asked_by asks))) (is_asked (requests.Asks request) finds (f.fails.was sound) w m) (f.fails.leaves sound w (looked g h old mid read (f.fails.was sound) w m));
          rows_unknown = λ w m. f.fails.rows_unknown w (unknown_now g h old mid w m);
          excused = looked_excuse g h old mid read new fault f.fails.excused;
        };
        connector = f.connector;
        sent = f.sent;
      }

      -- whatever others ask by it, about our records too
      pub asks_lead : (result : Result ActReportOf WorldFault) → IfOk result (Does g h midway new (deeds.Asks request)) → OnOk result (Leads g h midway new (λ w. after_act w (deeds.Asks request)))
          → OnOk result (Leads g h old new (λ w. after_act w (deeds.WritesRow row)))
      asks_lead (Err fault) does leads = tt
      asks_lead (Ok said) does leads = λ sound w m.
          subst (λ asks. Mirrors g h new (run_among w (asked_by asks))) (is_asked (requests.Asks request) finds (does.was sound) w m)
          (leads sound w (looked g h old mid read (does.was sound) w m))

    pub waits_lead : (member : List ℕ) → (g.is_faithful mid → requests.Waits member ≡ row_request (g.rows old.provider) row) → Leads g h old midway (λ w. after_act w (deeds.WritesRow row))
    waits_lead member finds sound w m =
        subst (λ asks. Mirrors g h midway (run_among w (asked_by asks))) (is_asked (requests.Waits member) finds sound w m) (looked g h old mid read sound w m)

  -- ---- a row that is held at the start

  holds_row : (old new : Running R J) (row : Row) (said : ActReportOf) → IsRow row → Leads g h old new (λ w. after_act w (deeds.WritesRow row)) → Does g h old new (deeds.WritesRow row) said
      → Does g h old new (deeds.Holds row) said
  holds_row old new row said law leads d = record {
    was = d.was;
    base = d.base;
    stays_open = d.stays_open;
    journal_open = d.journal_open;
    is = λ sound w is begins. after sound w is begins;
    report = λ sound w is. d.report sound w is;
  }
    where
      after : IsSound g h new → {scope : Scope} (w : World) → IsAmong g h scope old w → w ≡ scope.start → IsAmong g h (scope_at scope.ours (after_act w (deeds.Holds row))) new (after_act w (deeds.Holds row))
      after sound {scope} w is begins = record {
        mirrors = leads sound w is.mirrors;
        base = subst IsBase (sym d.base) is.base;
        reached = begun scope.ours (after_act w (deeds.Holds row)) (fit_held scope.ours w (subst (IsFitStart scope.ours) (sym begins) is.reached.begins) row law);
      }

  pub holds_told : (old new : Running R J) (row : Row) (result : Result ActReportOf WorldFault) → IsRow row → IfOk result (Does g h old new (deeds.WritesRow row))
      → OnOk result (Leads g h old new (λ w. after_act w (deeds.WritesRow row))) → IfOk result (Does g h old new (deeds.Holds row))
  holds_told old new row (Ok said) law does leads = holds_row old new row said law leads does
  holds_told old new row (Err fault) law does leads = tt

  pub unheld : (old new : Running R J) (row : Row) (result : Result ActReportOf WorldFault) → IfErr result (FailsToDo g h old new (deeds.WritesRow row)) → IfErr result (FailsToDo g h old new (deeds.Holds row))
  unheld old new row (Ok said) fails = tt
  unheld old new row (Err fault) fails = fails

  -- ---- acts one after the other

  pub among_none : (r : Running R J) → RunsAmong g h r r [] []
  among_none r = record {
    was = λ sound. sound;
    base = refl;
    stays_open = λ sound faithful. faithful;
    journal_open = λ sound faithful. faithful;
    is = λ sound w is apart. is;
    told_so = λ sound w is apart. refl;
  }

  pub among_on : (old mid new : Running R J) (early : List ActOf) (act : ActOf) (said : List ActReportOf) (last : ActReportOf)
      → RunsAmong g h old mid early said → Does g h mid new act last → RunsAmong g h old new (early ++ act ∷ []) (said ++ last ∷ [])
  among_on old mid new early act said last ran more = record {
    was = λ sound. ran.was (more.was sound);
    base = more.base ∙ ran.base;
    stays_open = λ sound faithful. more.stays_open sound (ran.stays_open (more.was sound) faithful);
    journal_open = λ sound faithful. more.journal_open sound (ran.journal_open (more.was sound) faithful);
    is = λ sound w is apart. after sound w is apart;
    told_so = λ sound w is apart. so sound w is apart;
  }
    where
      middle : IsSound g h new → {scope : Scope} (w : World) → IsAmong g h scope old w → AreApart scope w (early ++ act ∷ []) → IsAmong g h (moved_by scope w early) mid (run_among w (acts_of w early))
      middle sound {scope} w is apart = ran.is (more.was sound) w is (front_apart scope w early (act ∷ []) apart)

      after : IsSound g h new → {scope : Scope} (w : World) → IsAmong g h scope old w → AreApart scope w (early ++ act ∷ [])
          → IsAmong g h (moved_by scope w (early ++ act ∷ [])) new (run_among w (acts_of w (early ++ act ∷ [])))
      after sound {scope} w is apart =
          let made = more.is sound (run_among w (acts_of w early)) (middle sound w is apart) (last_apart scope w early act apart) in
          subst (λ v. IsAmong g h (moved_by scope w (early ++ act ∷ [])) new v) (sym (among-more w early act))
          (subst (λ s. IsAmong g h s new (after_act (run_among w (acts_of w early)) act)) (sym (moved-more scope w early act)) made)

      so : IsSound g h new → {scope : Scope} (w : World) → IsAmong g h scope old w → AreApart scope w (early ++ act ∷ [])
          → map act_report_of (said ++ last ∷ []) ≡ act_reports (message_size old.service) w (early ++ act ∷ [])
      so sound {scope} w is apart =
          let there = middle sound w is apart in
          let one = more.report sound (run_among w (acts_of w early)) there in
          let before = ran.told_so (more.was sound) w is (front_apart scope w early (act ∷ []) apart) in
          map_push act_report_of said last
          ∙ ap (λ rs. rs ++ act_report_of last ∷ []) before
          ∙ ap (λ r. act_reports (message_size old.service) w early ++ r ∷ []) (one ∙ ap (λ b. act_report (message_size b) (run_among w (acts_of w early)) act) ran.base)
          ∙ sym (reports-more (message_size old.service) w early act)

  -- ---- whole runs

  module _ (first ran : Running R J) (registry : R) (journal : J) (base : List ℕ) (said : List ActReportOf) (at : first.service ≡ base) (starts : Starts g h registry journal first) where
    ran_held : (ours : Names) (held : List Row) (later : List ActOf) → AllByRecursion (IsApartFrom ours) later → RunsAmong g h first ran (map deeds.Holds held ++ later) said
        → g.is_faithful registry → g.rows registry ≡ [] → h.entries journal ≡ fin.empty → IsSound g h ran → IsRunAmong g h ours base held later ran said
    ran_held ours held later apart runs faithful rows kept sound = record {
      base = runs.base ∙ at;
      opened = runs.stays_open sound (starts.stays_open faithful);
      journal_open = runs.journal_open sound (starts.journal_open (runs.was sound));
      is = there;
      told_so = runs.told_so sound empty start all_apart ∙ ap (λ b. act_reports (message_size b) empty (map deeds.Holds held ++ later)) at;
      headline = headline_at ours later apart (held_by held) there.reached.begins.is_start;
      from_empty = λ none. safe_run ours later apart;
    }
      where
        start : IsAmong g h (scope_at ours empty) first empty
        start = starts.is (runs.was sound) faithful rows kept ours

        all_apart : AreApart (scope_at ours empty) empty (map deeds.Holds held ++ later)
        all_apart = held_apart ours empty held later apart

        there : IsAmong g h (scope_at ours (held_by held)) ran (run_among (held_by held) (acts_of (held_by held) later))
        there =
            subst (λ v. IsAmong g h (scope_at ours (held_by held)) ran v) (held_then held later)
            (subst (λ s. IsAmong g h s ran (run_among empty (acts_of empty (map deeds.Holds held ++ later)))) (held_moved ours empty held later apart)
            (runs.is sound empty start all_apart))

    pub ran_among : (all : List ActOf) → RunsAmong g h first ran all said → RunsAmongFromEmpty g h registry journal base all ran said
    ran_among all runs faithful rows kept sound ours held later split apart =
        ran_held ours held later apart (subst (λ l. RunsAmong g h first ran l said) (sym split) runs) faithful rows kept sound

  -- without others
  pub runs_alone : RunsAlone g h
  runs_alone registry journal base events ran said runs faithful rows kept sound =
      let among = runs faithful rows kept sound all_names [] (map deeds.Ours events) refl (alone_apart events) in
      let same : run_among empty (acts_of empty (map deeds.Ours events)) ≡ run empty (events_of events) = ap (run_among empty) (alone_acts empty events) ∙ without_others.runs empty (events_of events) in
      record {
        base = among.base;
        opened = among.opened;
        journal_open = among.journal_open;
        is = is_of_ours g h ran (run empty (events_of events)) (subst (λ v. IsAmong g h (scope_at all_names empty) ran v) same among.is);
        told_so = sym (alone_said said) ∙ ap ours_among among.told_so ∙ alone_reports (message_size base) empty events;
        safe = λ early late _. always_safe early;
        onward = λ early middle late _. always_onward early middle;
        headline = λ early middle late _. headline_holds early middle;
      }
