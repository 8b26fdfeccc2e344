-- Each step of a trace among others is at most one act of the model among others, or two. Without others, acts are events.
use Rattle.std.proofs.Common.{◌≡◌, ℕ, zero, suc, Bool, true, false, List, [], ◌∷◌, ◌++◌, Option, Some, None, Result, Ok, Err, map, refl, ap, sym, subst, ◌∙◌}
use Rattle.std.specs.BTreeSet.{insert_key}
use Rattle.std.specs.FinMap.{keys}
use Rattle.std.specs.List.{AllByRecursion}
use Rattle.std.specs.Ordering.{is_eq, match_ordering}
use Rattle.std.specs.declared.cmp.Ordering.{Ordering}
use Rattle.std.specs.declared.cmp.Ordering.TheVariants.{Less, Equal, Greater}
use Rattle.scim_key.proofs.RecordLaws.{same as same_names}
use Rattle.scim_key.specs.RecordOrder.{tied}
use Rattle.scim_key.specs.Records.{name_cmp}
use Rattle.scim_key.specs.declared.records.RecordName.{RecordName}
use Rattle.scim_version.specs.declared.conditions.Condition.{Condition}
use Rattle.scim_message.specs.declared.messages.Request.{Request}
use Rattle.scim_message.specs.declared.messages.Request.TheVariants.{Create, Retrieve, Search, Replace}
use Rattle.provider_core.specs.Outcomes.{outcome, changed_rows}
use Rattle.provider_core.specs.Stories.{Entry, Numbered, entry_with_id, reading_entry, retrieving_entry}
use Rattle.provider_core.proofs.StoryLaws.{rows_follow_stories}
use Rattle.source_csv.specs.Records.{row_name}
use Rattle.source_csv.specs.declared.rows.Row.{Row}
use Rattle.connector_core.specs.Changing.{history_after, names_of, names_with}
use Rattle.connector_core.specs.History.{History, same_name, rows_of}
use Rattle.connector_core.specs.Maps.{BookMap}
use Rattle.connector_core.specs.declared.accepting.Verdict.{Verdict}
use Rattle.connector_core.specs.declared.accepting.Verdict.TheVariants as verdicts
use Rattle.connector_core.specs.declared.changing.ChangeFault.{ChangeFault}
use Rattle.world_model.specs.World.{World, Event, Changes, Sends, Delivers, Cuts, Restarts_provider, Restarts_connector, Doubts, changes, empty, happens, judged, run}
use Rattle.world_model.specs.Safe.{Has, Headline, IsAt}
use Rattle.world_model.specs.Untroubled.{IsLawful}
use Rattle.world_model.specs.Invariant.{AllOurs, Names, all_names}
use Rattle.world_model.specs.Others.{Act, Ours, Theirs, IsApart, KeepsApart, LeavesAlone, acts, run_among}
use Rattle.world_model.specs.Room.{IsLawfulAct}
use Rattle.world_model.proofs.Headlines.{apart_early, headline_holds, headline_holds_among}
use Rattle.world_model.proofs.Lists.{kept_has}
use Rattle.world_model.proofs.Onwards.{among-append, among_on}
use Rattle.world_model.proofs.Others.{without_others}
use Rattle.world_model.proofs.Ranking.{row_there}
use Rattle.world_sim.proofs.SettlingLemmas.{all-append}
use Rattle.promise.specs.Typed.{Mirrors, State, Trace, Trace.here as alone_here, Trace.next as alone_next, TypedTracesAreRuns, start}
use Rattle.promise.specs.AmongTyped.{HasOurs, StepAmong, StepAmong.mine, StepAmong.theirs, TraceAmong, TraceAmong.here, TraceAmong.next, TypedTracesAreRunsAmong}
use Rattle.promise.proofs.Lists.{all_mapped, has_last, has_more}
use Rattle.promise.proofs.Typed.{Leads, at_start, leads}

-- ---- acts lead from one world to one that the state mirrors

-- others leave our records alone
abbrev AreAlone : Names → Act → Type 0
AreAlone ours (Ours event) = Unit {0}
AreAlone ours (Theirs request) = LeavesAlone ours request

pub record LeadsAmong (ours : Names) (w : World) (new : State) : Type 0 where
  pub led : List Act
  pub lawful : AllByRecursion IsLawfulAct led
  pub alone : AllByRecursion (AreAlone ours) led
  pub mirrors : Mirrors new (run_among w led)

module _ (ours : Names) where
  events_alone : (events : List Event) → AllByRecursion (AreAlone ours) (map Ours events)
  events_alone [] = tt
  events_alone (event ∷ events) = (tt, events_alone events)

  by_events : (w : World) (new : State) → Leads w new → LeadsAmong ours w new
  by_events w new l = record {
    led = map Ours l.events;
    lawful = all_mapped IsLawfulAct Ours l.events l.lawful;
    alone = events_alone l.events;
    mirrors = subst (Mirrors new) (sym (without_others.runs w l.events)) l.mirrors;
  }

  by_theirs : (old : State) (w : World) (request : Request) → LeavesAlone ours request → Mirrors old w
      → LeadsAmong ours w (record old { rows = changed_rows old.rows (outcome old.rows request).change })
  by_theirs old w request alone m =
      let agrees = rows_follow_stories w.entries request m.table in
      record {
        led = Theirs request ∷ [];
        lawful = (tt, tt);
        alone = (alone, tt);
        mirrors = record {
          rows = ap (λ rows. changed_rows rows (outcome rows request).change) m.rows ∙ agrees.rows;
          table = agrees.table;
          history = m.history;
          book = m.book;
          names = m.names;
          sent = m.sent;
          replies = m.replies;
        };
      }

  leads_among : (old new : State) (w : World) → StepAmong ours old new → Mirrors old w → LeadsAmong ours w new
  leads_among old new w (mine step) m = by_events w new (leads old new w step m)
  leads_among old new w (theirs request alone) m = by_theirs old w request alone m

  traced_among : (old new : State) (w : World) → TraceAmong ours old new → Mirrors old w → LeadsAmong ours w new
  traced_among old new w here m = record { led = []; lawful = tt; alone = tt; mirrors = m }
  traced_among old new w (next {mid = mid} trace step) m =
      let first = traced_among old mid w trace m in
      let last = leads_among mid new (run_among w first.led) step first.mirrors in
      record {
        led = first.led ++ last.led;
        lawful = all-append IsLawfulAct first.led last.led first.lawful last.lawful;
        alone = all-append (AreAlone ours) first.led last.led first.alone last.alone;
        mirrors = subst (Mirrors new) (sym (among-append w first.led last.led)) last.mirrors;
      }

-- ---- a row that isn't accepted changes nothing, so it may as well not be offered

abbrev pub Keeps : History → History → Type 0
Keeps old new = (row : Row) → Has old row → Has new row

pub changes_keep : (history : History) (row : Row) (v : Result Verdict ChangeFault) → Keeps history (history_after history row v)
changes_keep history row (Ok verdicts.New) r has = has_more history (row ∷ []) r has
changes_keep history row (Ok verdicts.Known) r has = has
changes_keep history row (Ok verdicts.Older) r has = has
changes_keep history row (Err fault) r has = has

led_keep : (w : World) (led : List Act) → Keeps w.history (run_among w led).history
led_keep w led row has =
    let here = kept_has (λ r. same_name (row_name r) (row_name row)) w.history has.0 row has.1 ((same_names (row_name row) (row_name row)).1 refl) in
    let on = (among_on w led).rows (row_name row) in
    row_there (run_among w led).history (row_name row) row (subst (λ (rows : List Row). Has rows row) (sym on.1) (has_more (rows_of w.history (row_name row)) on.0 row here))

-- acts that keep apart lead to the same world
record LeadsApart (ours : Names) (w : World) (led : List Act) : Type 0 where
  kept : List Act
  lawful : AllByRecursion IsLawfulAct kept
  apart : KeepsApart ours kept
  same : run_among w kept ≡ run_among w led

module _ (ours : Names) where
  with_act : (w : World) (act : Act) (led : List Act) → IsLawfulAct act → IsApart ours act → LeadsApart ours (acts w act) led → LeadsApart ours w (act ∷ led)
  with_act w act led law its rest = record { kept = act ∷ rest.kept; lawful = (law, rest.lawful); apart = (its, rest.apart); same = rest.same }

  without_act : (w : World) (act : Act) (led : List Act) → acts w act ≡ w → LeadsApart ours w led → LeadsApart ours w (act ∷ led)
  without_act w act led same rest =
      record { kept = rest.kept; lawful = rest.lawful; apart = rest.apart; same = rest.same ∙ ap (λ v. run_among v led) (sym same) }

  -- an accepted row is in the history
  accepted : (w : World) (row : Row) (led : List Act) → judged w row ≡ Ok verdicts.New → AllOurs ours (run_among (changes w row (judged w row)) led).history → ours (row_name row) ≡ true
  accepted w row led is all =
      all row (led_keep (changes w row (judged w row)) led row (subst (λ v. Has (changes w row v).history row) (sym is) (has_last w.history row)))

  refused : (w : World) (row : Row) (led : List Act) → changes w row (judged w row) ≡ w → ((v : World) → AllOurs ours (run_among v led).history → LeadsApart ours v led)
      → AllOurs ours (run_among (changes w row (judged w row)) led).history → LeadsApart ours w (Ours (Changes row) ∷ led)
  refused w row led same rest all =
      without_act w (Ours (Changes row)) led same (rest w (subst (λ v. AllOurs ours (run_among v led).history) same all))

  offered : (w : World) (row : Row) (led : List Act) → IsLawful (Changes row) → ((v : World) → AllOurs ours (run_among v led).history → LeadsApart ours v led)
      → AllOurs ours (run_among (changes w row (judged w row)) led).history → (v : Result Verdict ChangeFault) → judged w row ≡ v → LeadsApart ours w (Ours (Changes row) ∷ led)
  offered w row led law rest all (Ok verdicts.New) is =
      with_act w (Ours (Changes row)) led law (accepted w row led is all) (rest (changes w row (judged w row)) all)
  offered w row led law rest all (Ok verdicts.Known) is = refused w row led (ap (changes w row) is) rest all
  offered w row led law rest all (Ok verdicts.Older) is = refused w row led (ap (changes w row) is) rest all
  offered w row led law rest all (Err fault) is = refused w row led (ap (changes w row) is) rest all

  kept_apart : (w : World) (led : List Act) → AllByRecursion IsLawfulAct led → AllByRecursion (AreAlone ours) led → AllOurs ours (run_among w led).history → LeadsApart ours w led
  kept_apart w [] law alone all = record { kept = []; lawful = tt; apart = tt; same = refl }
  kept_apart w (Theirs request ∷ led) law alone all =
      with_act w (Theirs request) led tt alone.0 (kept_apart (acts w (Theirs request)) led law.1 alone.1 all)
  kept_apart w (Ours (Changes row) ∷ led) law alone all = offered w row led law.0 (λ v after. kept_apart v led law.1 alone.1 after) all (judged w row) refl
  kept_apart w (Ours (Sends name) ∷ led) law alone all = with_act w (Ours (Sends name)) led tt tt (kept_apart (happens w (Sends name)) led law.1 alone.1 all)
  kept_apart w (Ours (Delivers number) ∷ led) law alone all =
      with_act w (Ours (Delivers number)) led tt tt (kept_apart (happens w (Delivers number)) led law.1 alone.1 all)
  kept_apart w (Ours (Cuts number length) ∷ led) law alone all =
      with_act w (Ours (Cuts number length)) led tt tt (kept_apart (happens w (Cuts number length)) led law.1 alone.1 all)
  kept_apart w (Ours Restarts_provider ∷ led) law alone all =
      with_act w (Ours Restarts_provider) led tt tt (kept_apart (happens w Restarts_provider) led law.1 alone.1 all)
  kept_apart w (Ours Restarts_connector ∷ led) law alone all =
      with_act w (Ours Restarts_connector) led tt tt (kept_apart (happens w Restarts_connector) led law.1 alone.1 all)
  kept_apart w (Ours (Doubts name) ∷ led) law alone all =
      with_act w (Ours (Doubts name)) led tt tt (kept_apart (happens w (Doubts name)) led law.1 alone.1 all)

-- ---- the connector has a record for each accepted row

module _ (P : RecordName → Type 0) where
  with_name : (names : List RecordName) (name : RecordName) → AllByRecursion P (insert_key name_cmp names name) → P name × AllByRecursion P names
  with_name [] name all = (all.0, tt)
  with_name (x ∷ xs) name all = go (name_cmp name x) refl (λ rest. with_name xs name rest) all
    where
      go : (r : Ordering) → name_cmp name x ≡ r → (AllByRecursion P (insert_key name_cmp xs name) → P name × AllByRecursion P xs)
          → AllByRecursion P (match_ordering r (name ∷ x ∷ xs) (x ∷ xs) (x ∷ insert_key name_cmp xs name)) → P name × (P x × AllByRecursion P xs)
      go Less is rest all = (all.0, all.1)
      go Equal is rest all = (subst P (sym ((same_names name x).0 (sym (tied name x) ∙ ap is_eq is))) all.0, all)
      go Greater is rest all = let others = rest all.1 in (others.0, (all.0, others.1))

  one_more : (first : Row) (history : History) → P (row_name first) → ((row : Row) → Has history row → P (row_name row)) → (place : ℕ) (row : Row) → IsAt (first ∷ history) place row → P (row_name row)
  one_more first history its later zero row at = let same : first ≡ row = cc at in subst (λ (r : Row). P (row_name r)) same its
  one_more first history its later (suc place) row at = later row (place, at)

  named_so : (names : List RecordName) (history : History) → AllByRecursion P (names_with names history) → AllByRecursion P names × ((row : Row) → Has history row → P (row_name row))
  named_so names [] all = (all, λ row has. absurd (cc has.1))
  named_so names (first ∷ history) all =
      let later = named_so (insert_key name_cmp names (row_name first)) history all in
      let one = with_name names (row_name first) later.0 in
      (one.1, λ row has. one_more first history one.0 later.1 has.0 row has.1)

pub rows_ours : (ours : Names) (book : BookMap) (history : History) → keys book ≡ names_of history → HasOurs ours book → AllOurs ours history
rows_ours ours book history names all = (named_so (λ name. ours name ≡ true) [] history (subst (AllByRecursion (λ name. ours name ≡ true)) names all)).1

-- ---- every trace

-- a run among others that the state mirrors
pub record Ran (ours : Names) (w : World) (new : State) : Type 0 where
  pub led : List Act
  pub lawful : AllByRecursion IsLawfulAct led
  pub apart : KeepsApart ours led
  pub mirrors : Mirrors new (run_among w led)

pub ran : (ours : Names) (old new : State) (w : World) → AllOurs ours new.history → TraceAmong ours old new → Mirrors old w → Ran ours w new
ran ours old new w all trace m =
    let l = traced_among ours old new w trace m in
    let k = kept_apart ours w l.led l.lawful l.alone (subst (AllOurs ours) l.mirrors.history all) in
    record { led = k.kept; lawful = k.lawful; apart = k.apart; mirrors = subst (Mirrors new) (sym k.same) l.mirrors }

-- the rows that were accepted early are accepted later
ours_early : (ours : Names) (old new : State) → TraceAmong ours start old → TraceAmong ours old new → AllOurs ours new.history → AllOurs ours old.history
ours_early ours old new trace more all row has =
    let first = traced_among ours start old empty trace at_start in
    let then_ = traced_among ours old new (run_among empty first.led) more first.mirrors in
    all row (subst (λ (h : History). Has h row) (sym then_.mirrors.history)
    (led_keep (run_among empty first.led) then_.led row (subst (λ (h : History). Has h row) first.mirrors.history has)))

pub typed_traces_are_runs_among : TypedTracesAreRunsAmong
typed_traces_are_runs_among ours s t known trace more =
    let so_far = traced_among ours start s empty trace at_start in
    let mirrors = (traced_among ours s t (run_among empty so_far.led) more so_far.mirrors).mirrors in
    let all : AllOurs ours t.history = rows_ours ours t.book t.history (mirrors.names ∙ ap names_of (sym mirrors.history)) known in
    let first = ran ours start s empty (ours_early ours s t trace more all) trace at_start in
    let then_ = ran ours s t (run_among empty first.led) all more first.mirrors in
    let apart = all-append (IsApart ours) first.led then_.led first.apart then_.apart in
    record {
      early = first.led;
      late = then_.led;
      apart = apart;
      lawful = all-append IsLawfulAct first.led then_.led first.lawful then_.lawful;
      before = first.mirrors;
      after = subst (Mirrors t) (sym (among-append empty first.led then_.led)) then_.mirrors;
      headline = headline_holds_among ours first.led then_.led apart;
    }

-- ---- without others

reading : (matches fresh : Bool) (n : Numbered) (es : List Entry) → (reading_entry matches fresh n es).entries ≡ es
reading false false n es = refl
reading false true n es = refl
reading true false n es = refl
reading true true n es = refl

retrieving : (o : Option Numbered) (es : List Entry) (if_match if_none_match : Condition) → (retrieving_entry o es if_match if_none_match).entries ≡ es
retrieving None es if_match if_none_match = refl
retrieving (Some n) es if_match if_none_match = reading _ _ n es

-- others who leave all records alone change nothing
reads_only : (w : World) (request : Request) → LeavesAlone all_names request → acts w (Theirs request) ≡ w
reads_only w (Create content) alone = absurd (cc alone)
reads_only w (Retrieve kind id if_match if_none_match) alone = ap (λ es. record w { entries = es }) (retrieving (entry_with_id kind id w.entries) w.entries if_match if_none_match)
reads_only w (Search kind wanted begin count) alone = refl
reads_only w (Replace id content if_match if_none_match) alone = absurd (cc alone)

abbrev ours_in : List Act → List Event
ours_in [] = []
ours_in (Ours event ∷ led) = event ∷ ours_in led
ours_in (Theirs request ∷ led) = ours_in led

ours_both : (early late : List Act) → ours_in (early ++ late) ≡ ours_in early ++ ours_in late
ours_both [] late = refl
ours_both (Ours event ∷ early) late = ap (λ (events : List Event). event ∷ events) (ours_both early late)
ours_both (Theirs request ∷ early) late = ours_both early late

ours_lawful : (led : List Act) → AllByRecursion IsLawfulAct led → AllByRecursion IsLawful (ours_in led)
ours_lawful [] law = tt
ours_lawful (Ours event ∷ led) law = (law.0, ours_lawful led law.1)
ours_lawful (Theirs request ∷ led) law = ours_lawful led law.1

ours_same : (w : World) (led : List Act) → KeepsApart all_names led → run_among w led ≡ run w (ours_in led)
ours_same w [] apart = refl
ours_same w (Ours event ∷ led) apart = ours_same (happens w event) led apart.1
ours_same w (Theirs request ∷ led) apart = ap (λ v. run_among v led) (reads_only w request apart.0) ∙ ours_same w led apart.1

-- acts among which every record is ours are our events
pub record AreOurs (early late : List Act) : Type 0 where
  pub first : List Event
  pub more : List Event
  pub lawful : AllByRecursion IsLawful (first ++ more)
  pub before : run_among empty early ≡ run empty first
  pub after : run_among empty (early ++ late) ≡ run empty (first ++ more)
  pub headline : Headline (run empty first) (run empty (first ++ more))

pub are_ours : (early late : List Act) → KeepsApart all_names (early ++ late) → AllByRecursion IsLawfulAct (early ++ late) → AreOurs early late
are_ours early late apart law = record {
  first = ours_in early;
  more = ours_in late;
  lawful = subst (AllByRecursion IsLawful) (ours_both early late) (ours_lawful (early ++ late) law);
  before = ours_same empty early (apart_early all_names early late apart);
  after = ours_same empty (early ++ late) apart ∙ ap (run empty) (ours_both early late);
  headline = headline_holds (ours_in early) (ours_in late);
}

pub all_named : (names : List RecordName) → AllByRecursion (λ name. all_names name ≡ true) names
all_named [] = tt
all_named (name ∷ names) = (refl, all_named names)

all_mine : (ours : Names) (a b : State) → Trace a b → TraceAmong ours a b
all_mine ours a b alone_here = here
all_mine ours a b (alone_next {mid = mid} more step) = next (all_mine ours a mid more) (mine step)

pub typed_traces_are_runs : TypedTracesAreRuns
typed_traces_are_runs s t trace more =
    let r = typed_traces_are_runs_among all_names s t (all_named (keys t.book)) (all_mine all_names start s trace) (all_mine all_names s t more) in
    let o = are_ours r.early r.late r.apart r.lawful in
    record { early = o.first; late = o.more; lawful = o.lawful; before = subst (Mirrors s) o.before r.before; after = subst (Mirrors t) o.after r.after; headline = o.headline }
