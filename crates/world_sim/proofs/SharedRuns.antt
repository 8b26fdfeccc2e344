-- Turns one after the other, from connectors that start, to records that are settled and shown.
use Rattle.std.proofs.Common.{arith, ◌≡◌, ◌<◌, ◌+◌, ◌-◌, ◌^◌, ◌⊎◌, ℕ, zero, suc, Bool, true, false, is_some, List, [], ◌∷◌, ◌++◌, Option, Some, None, Result, Ok, Err, IfErr, map, min, length, refl, ap, sym, subst, inl, inr, ◌∙◌, append-nil, append_assoc, length-append}
use Rattle.std.proofs.Math.ListN.{get_or}
use Rattle.std.proofs.KnownBytes.{Appends-trans}
use Rattle.std.proofs.lemmas.List.{map_push, map-append}
use Rattle.std.proofs.lemmas.Option.{slice_get-get_or}
use Rattle.std.specs.List.{AllByRecursion, slice_get}
use Rattle.provider_core.specs.declared.registry.Registry.{Ghosts as Registries}
use Rattle.journal_core.specs.declared.journals.Journal.{Ghosts as Journals}
use Rattle.world_model.specs.Invariant.{Names}
use Rattle.world_model.specs.Others.{HeadlineAmong}
use Rattle.world_model.specs.Reports.{report}
use Rattle.world_model.specs.Safe.{Onward}
use Rattle.world_model.specs.Several.{Shared, nobody, world_at, with_world, happens_at, run_several, side_after, NoneShared, EachItsOwn, IsItsOwn}
use Rattle.world_model.specs.World.{Message}
use Rattle.world_model.proofs.Several.{always_safe_for_each, always_onward_for_each, headline_holds_for_each}
use Rattle.world_sim.specs.Events.{event_of, report_of}
use Rattle.world_sim.specs.Following.{RunsTold}
use Rattle.world_sim.specs.Transitions.{AreRuns}
use Rattle.world_sim.specs.Messages.{message_size}
use Rattle.world_sim.specs.Printing.{PrintsReport, printed_reports, report_lines, settled_lines, view_lines}
use Rattle.world_sim.specs.Running.{IsAmong, IsSound, Starts, from_empty, journal_in}
use Rattle.world_sim.specs.Several.{Adds, FailsToStart, StopsAt, StopsEach, AreAmong, AreSound, GoesOnSharing, HappensAt, IsNew, IsSeatAt, RunsSeveral, RunsSeveralFromEmpty, SettlesAt, SettlesEach, StartsSeveral, seat_of, seated, seats_of, turn_of, turn_report_of, turn_reports, turns_of}
use Rattle.world_sim.specs.SeveralPrinting.{EndsPrintingSeveral, EndsSeveral, PrintsSeveral, ReachesEach, SettlesEachIf, ShowsAt, ShowsEachSide, turn_text, views_lines, views_of}
use Rattle.connector_core.specs.State.{CountsOpen}
use Rattle.connector_core.specs.declared.opening.ConnectorOpenFault.{ConnectorOpenFault}
use Rattle.connector_core.specs.declared.opening.ConnectorOpenFault.TheVariants as opening
use Rattle.world_sim.specs.Events.{opening_fault}
use Rattle.world_sim.specs.Sides.{CountsWorldFault}
use Rattle.world_sim.specs.declared.following.TellingFault.{TellingFault}
use Rattle.world_sim.specs.declared.printing.ReportLines.{ReportLines}
use Rattle.world_sim.specs.declared.reports.WorldFault.{WorldFault}
use Rattle.world_sim.specs.declared.reports.WorldFault.TheVariants.{Memory}
use Rattle.world_sim.specs.declared.several.Seat.{Seat}
use Rattle.world_sim.specs.declared.several.SharedWorld.{SharedWorld}
use Rattle.world_sim.specs.declared.several.Turn.{Turn as TurnOf}
use Rattle.world_sim.specs.declared.several.TurnReport.{TurnReport}
use Rattle.world_sim.specs.declared.several_printing.PrintedSeveral.{PrintedSeveral}
use Rattle.world_sim.specs.declared.settling.Count.{Count}
use Rattle.world_sim.specs.declared.views.View.{View}
use Rattle.world_sim.specs.declared.worlds.World.{World as Running}
use Rattle.world_sim.proofs.PrintingLemmas.{lines_printed}
use Rattle.world_sim.proofs.SharingLemmas.{at_first, now_sound, sound_before, stayed}
use Rattle.world_sim.proofs.WholeRuns.{all_back, all_front}

-- ---- one element more

kept_at : {X : Type 0} (xs : List X) (x y : X) (i : ℕ) → slice_get xs i ≡ Some y → slice_get (xs ++ x ∷ []) i ≡ Some y
kept_at [] x y i at = absurd (cc at)
kept_at (z ∷ xs) x y zero at = at
kept_at (z ∷ xs) x y (suc i) at = kept_at xs x y i at

last_at : {X : Type 0} (xs : List X) (x : X) → slice_get (xs ++ x ∷ []) (length xs) ≡ Some x
last_at [] x = refl
last_at (z ∷ xs) x = last_at xs x

pushed_at : {X : Type 0} (xs : List X) (x y : X) (i : ℕ) → slice_get (xs ++ x ∷ []) i ≡ Some y → (slice_get xs i ≡ Some y) ⊎ (x ≡ y)
pushed_at [] x y zero at = inr (cc at)
pushed_at [] x y (suc i) at = absurd (cc at)
pushed_at (z ∷ xs) x y zero at = inl at
pushed_at (z ∷ xs) x y (suc i) at = pushed_at xs x y i at

-- ---- the model's turns

run-more : (s : Shared) (early : List TurnOf) (turn : TurnOf) → run_several s (turns_of (early ++ turn ∷ [])) ≡ happens_at (run_several s (turns_of early)) (turn_of turn)
run-more s [] turn = refl
run-more s (t ∷ early) turn = run-more (happens_at s (turn_of t)) early turn

reports-more : (size : Message → ℕ) (s : Shared) (early : List TurnOf) (turn : TurnOf)
    → turn_reports size s (early ++ turn ∷ []) ≡ turn_reports size s early ++ (turn.place + 1, report size (world_at (run_several s (turns_of early)) turn.place) (event_of turn.event)) ∷ []
reports-more size s [] turn = refl
reports-more size s (t ∷ early) turn = ap (λ rs. (t.place + 1, report size (world_at s t.place) (event_of t.event)) ∷ rs) (reports-more size (happens_at s (turn_of t)) early turn)

own_early : (ours : ℕ → Names) (early : List TurnOf) (turn : TurnOf) → EachItsOwn ours (turns_of (early ++ turn ∷ [])) → EachItsOwn ours (turns_of early)
own_early ours early turn own = all_front (IsItsOwn ours) (turns_of early) (turn_of turn ∷ []) (subst (EachItsOwn ours) (map_push turn_of early turn) own)

own_last : (ours : ℕ → Names) (early : List TurnOf) (turn : TurnOf) → EachItsOwn ours (turns_of (early ++ turn ∷ [])) → IsItsOwn ours (turn_of turn)
own_last ours early turn own = (all_back (IsItsOwn ours) (turns_of early) (turn_of turn ∷ []) (subst (EachItsOwn ours) (map_push turn_of early turn) own)).0

-- ---- lines

pub views_lines-push : (all : List (List View)) (views : List View) → views_lines (all ++ views ∷ []) ≡ views_lines all ++ view_lines views
views_lines-push [] views = append-nil (view_lines views)
views_lines-push (first ∷ all) views = ap (λ l. view_lines first ++ l) (views_lines-push all views) ∙ sym (append_assoc (view_lines first) (views_lines all) (view_lines views))

module _ {R J : Type 0} (g : Registries R) (h : Journals J) where
  -- ---- the start

  pub starts_one : (r : SharedWorld R J) (registry : R) (journal : J) (base : List ℕ) → r.others.items ≡ [] → r.first.service ≡ base → Starts g h registry journal r.first
      → StartsSeveral g h registry (journal ∷ []) base r
  starts_one r registry journal base none at starts = record {
    base_is = at;
    stays_open = starts.stays_open;
    journals_open = λ sound place seat there. subst (λ (s : Seat J). h.is_faithful (journal_in s.connector)) (alone place seat there) (starts.journal_open (here sound));
    count = ap (λ l. suc (length l)) none;
    is = λ sound faithful rows new ours none_shared. record {
      none_shared = none_shared;
      each = λ place seat there. subst (λ s. IsAmong g h (from_empty (ours place)) (seated r.first s) (world_at nobody place)) (alone place seat there) (starts.is (here sound) faithful rows new.0 (ours place));
    };
  }
    where
      alone : (place : ℕ) (seat : Seat J) → IsSeatAt r place seat → seat_of r.first ≡ seat
      alone zero seat there = cc there
      alone (suc k) seat there = let e : slice_get [] k ≡ Some seat = subst (λ l. slice_get l k ≡ Some seat) none there in absurd (cc e)

      here : AreSound g h r → IsSound g h r.first
      here sound = sound 0 (seat_of r.first) refl

  pub added_one : (old new : SharedWorld R J) (seat : Seat J) (journal : J) → new.first ≡ old.first → new.others.items ≡ old.others.items ++ seat ∷ [] → Starts g h old.first.provider journal (seated old.first seat)
      → Adds g h old new journal
  added_one old new seat journal first added starts = record { seat = seat; first = first; added = added; starts = starts }

  pub starts_more : (old new : SharedWorld R J) (registry : R) (journals : List J) (journal : J) (base : List ℕ) → StartsSeveral g h registry journals base old → Adds g h old new journal
      → StartsSeveral g h registry (journals ++ journal ∷ []) base new
  starts_more old new registry journals journal base starts adds = record {
    base_is = ap (λ (f : Running R J). f.service) adds.first ∙ starts.base_is;
    stays_open = λ faithful. subst (λ (f : Running R J). g.is_faithful f.provider) (sym adds.first) (starts.stays_open faithful);
    journals_open = λ sound place seat there. elim (pushed_at (seats_of old) adds.seat seat place (before place seat there)) [
      | inl at ↦ starts.journals_open (sound_was sound) place seat at
      | inr same ↦ subst (λ (s : Seat J). h.is_faithful (journal_in s.connector)) same (adds.starts.journal_open (sound_last sound))
    ];
    count = ap length seats ∙ length-append (seats_of old) (adds.seat ∷ []) ∙ ap (λ n. n + 1) starts.count ∙ sym (length-append journals (journal ∷ []));
    is = λ sound faithful rows empty ours none_shared. record { none_shared = none_shared; each = each sound faithful rows empty ours none_shared };
  }
    where
      seats : seats_of new ≡ seats_of old ++ adds.seat ∷ []
      seats = ap (λ f. seat_of f ∷ new.others.items) adds.first ∙ ap (λ l. seat_of old.first ∷ l) adds.added

      before : (place : ℕ) (seat : Seat J) → IsSeatAt new place seat → slice_get (seats_of old ++ adds.seat ∷ []) place ≡ Some seat
      before place seat there = subst (λ l. slice_get l place ≡ Some seat) seats there

      after : (place : ℕ) (seat : Seat J) → slice_get (seats_of old ++ adds.seat ∷ []) place ≡ Some seat → IsSeatAt new place seat
      after place seat there = subst (λ l. slice_get l place ≡ Some seat) (sym seats) there

      sound_was : AreSound g h new → AreSound g h old
      sound_was sound place seat at = subst (λ f. IsSound g h (seated f seat)) adds.first (sound place seat (after place seat (kept_at (seats_of old) adds.seat seat place at)))

      sound_last : AreSound g h new → IsSound g h (seated old.first adds.seat)
      sound_last sound = subst (λ f. IsSound g h (seated f adds.seat)) adds.first (sound (length (seats_of old)) adds.seat (after (length (seats_of old)) adds.seat (last_at (seats_of old) adds.seat)))

      among : AreSound g h new → g.is_faithful registry → g.rows registry ≡ [] → AllByRecursion (IsNew h) (journals ++ journal ∷ []) → (ours : ℕ → Names) → NoneShared ours → AreAmong g h ours old nobody
      among sound faithful rows empty ours none_shared = starts.is (sound_was sound) faithful rows (all_front (IsNew h) journals (journal ∷ []) empty) ours none_shared

      last : AreSound g h new → g.is_faithful registry → AllByRecursion (IsNew h) (journals ++ journal ∷ []) → {ours : ℕ → Names} → AreAmong g h ours old nobody
          → (place : ℕ) → IsAmong g h (from_empty (ours place)) (seated old.first adds.seat) (world_at nobody place)
      last sound faithful empty {ours} before place =
          let opened = starts.stays_open faithful in
          adds.starts.is (sound_last sound) opened ((before.each 0 (seat_of old.first) refl).mirrors.rows opened) (all_back (IsNew h) journals (journal ∷ []) empty).0 (ours place)

      each : AreSound g h new → g.is_faithful registry → g.rows registry ≡ [] → AllByRecursion (IsNew h) (journals ++ journal ∷ []) → (ours : ℕ → Names) → NoneShared ours
          → (place : ℕ) (seat : Seat J) → IsSeatAt new place seat → IsAmong g h (from_empty (ours place)) (seated new.first seat) (world_at nobody place)
      each sound faithful rows empty ours none_shared place seat there =
          let were = among sound faithful rows empty ours none_shared in
          subst (λ f. IsAmong g h (from_empty (ours place)) (seated f seat) (world_at nobody place)) (sym adds.first) (elim (pushed_at (seats_of old) adds.seat seat place (before place seat there)) [
            | inl at ↦ were.each place seat at
            | inr same ↦ subst (λ s. IsAmong g h (from_empty (ours place)) (seated old.first s) (world_at nobody place)) same (last sound faithful empty were place)
          ])

  -- ---- turns

  goes_on : (r : SharedWorld R J) → GoesOnSharing g h r r
  goes_on r = record { was = λ sound. sound; base = refl; stays_open = λ sound faithful. faithful; journals_open = λ sound opened. opened }

  goes_further : (old mid new : SharedWorld R J) → GoesOnSharing g h old mid → GoesOnSharing g h mid new → GoesOnSharing g h old new
  goes_further old mid new one two = record {
    was = λ sound. one.was (two.was sound);
    base = two.base ∙ one.base;
    stays_open = λ sound faithful. two.stays_open sound (one.stays_open (two.was sound) faithful);
    journals_open = λ sound opened. two.journals_open sound (one.journals_open (two.was sound) opened);
  }

  several_none : (r : SharedWorld R J) → RunsSeveral g h r r [] []
  several_none r = record { on = goes_on r; count = refl; numbers = refl; is = λ sound s among own. among; told_so = λ sound s among own. refl }

  several_on : (old mid new : SharedWorld R J) (early : List TurnOf) (turn : TurnOf) (said : List TurnReport) (last : TurnReport)
      → RunsSeveral g h old mid early said → HappensAt g h mid new turn.place (event_of turn.event) last → RunsSeveral g h old new (early ++ turn ∷ []) (said ++ last ∷ [])
  several_on old mid new early turn said last ran one = record {
    on = goes_further old mid new ran.on one.on;
    count = one.done.count ∙ ran.count;
    numbers = map_push (λ (t : TurnReport). t.connector) said last ∙ ap (λ l. l ++ last.connector ∷ []) ran.numbers ∙ ap (λ n. map (λ (t : TurnOf). t.place + 1) early ++ n ∷ []) one.number
        ∙ sym (map_push (λ (t : TurnOf). t.place + 1) early turn);
    is = λ sound {ours} s among own.
        subst (λ t. AreAmong g h ours new t) (sym (run-more s early turn))
        (one.is sound (run_several s (turns_of early)) (ran.is (one.on.was sound) s among (own_early ours early turn own)) (own_last ours early turn own));
    told_so = λ sound {ours} s among own.
        let there = ran.is (one.on.was sound) s among (own_early ours early turn own) in
        let says = one.says sound (run_several s (turns_of early)) there ∙ ap (λ b. report (message_size b) (world_at (run_several s (turns_of early)) turn.place) (event_of turn.event)) ran.on.base in
        map_push turn_report_of said last
        ∙ ap (λ rs. rs ++ turn_report_of last ∷ []) (ran.told_so (one.on.was sound) s among (own_early ours early turn own))
        ∙ ap (λ n. turn_reports (message_size old.first.service) s early ++ (n, report_of last.report) ∷ []) one.number
        ∙ ap (λ r. turn_reports (message_size old.first.service) s early ++ (turn.place + 1, r) ∷ []) says
        ∙ sym (reports-more (message_size old.first.service) s early turn);
  }

  pub turns_run : AreRuns (λ old new turn. HappensAt g h old new turn.place (event_of turn.event)) (RunsSeveral g h)
  turns_run = record { none = several_none; more = several_on }

  -- ---- whole runs

  pub ran_several : (first ran : SharedWorld R J) (registry : R) (journals : List J) (base : List ℕ) (turns : List TurnOf) (said : List TurnReport)
      → StartsSeveral g h registry journals base first → RunsSeveral g h first ran turns said → RunsSeveralFromEmpty g h registry journals base turns ran said
  ran_several first ran registry journals base turns said starts runs faithful rows empty sound ours none_shared own = record {
    base = runs.on.base ∙ starts.base_is;
    opened = runs.on.stays_open sound (starts.stays_open faithful);
    journals_open = runs.on.journals_open sound (starts.journals_open (runs.on.was sound));
    is = runs.is sound nobody start own;
    told_so = runs.told_so sound nobody start own ∙ ap (λ b. turn_reports (message_size b) nobody turns) starts.base_is;
    safe = λ early late split place. always_safe_for_each ours (turns_of early) none_shared (front early late split) place;
    onward = λ early middle late split place. subst (λ l. Onward (side_after (turns_of early) place) (side_after l place)) (sym (map-append turn_of early middle))
        (always_onward_for_each (turns_of early) (turns_of middle) place);
    headline = λ early middle late split place. subst (λ l. HeadlineAmong (ours place) (side_after (turns_of early) place) (side_after l place)) (sym (map-append turn_of early middle))
        (headline_holds_for_each ours (turns_of early) (turns_of middle) none_shared (subst (EachItsOwn ours) (map-append turn_of early middle) (front (early ++ middle) late split)) place);
  }
    where
      start : AreAmong g h ours first nobody
      start = starts.is (runs.on.was sound) faithful rows empty ours none_shared

      front : (early late : List TurnOf) → early ++ late ≡ turns → EachItsOwn ours (turns_of early)
      front early late split = all_front (IsItsOwn ours) (turns_of early) (turns_of late) (subst (EachItsOwn ours) (map-append turn_of early late) (subst (λ l. EachItsOwn ours (turns_of l)) (sym split) own))

  -- ---- runs to convergence

  pub none_settled_each : (r : SharedWorld R J) → SettlesEach g h r r 0 0
  none_settled_each r = record { on = goes_on r; count = refl; is = λ sound s among. (s, (refl, refl), among) }

  pub one_settled_each : (old mid new : SharedWorld R J) (place before sum : ℕ) (count : Count) → sum ≡ min (before + count.exchanges) (2 ^ 32 - 1)
      → SettlesEach g h old mid place before → SettlesAt g h mid new place count → SettlesEach g h old new (place + 1) sum
  one_settled_each old mid new place before sum count added far one =
      let next : place + 1 ≡ suc place = omega arith in
      subst (λ n. SettlesEach g h old new n sum) (sym next) (record {
        on = goes_further old mid new far.on one.on;
        count = one.done.count ∙ far.count;
        is = λ sound s among.
            let (u, reached, there) = far.is (one.on.was sound) s among in
            let (v, settling, here) = one.is sound u there in
            (with_world u place v, (u, v, before, count.exchanges, reached, settling, refl, added), here);
      })

  -- ---- views

  pub none_shown_each : (r : SharedWorld R J) → ShowsEachSide g h r r 0 []
  none_shown_each r = record { was = λ sound. sound; count = refl; is = λ sound s among. among; shown = λ sound s among. refl }

  pub one_shown_each : (old mid new : SharedWorld R J) (place : ℕ) (all : List (List View)) (views : List View)
      → ShowsEachSide g h old mid place all → ShowsAt g h mid new place views → ShowsEachSide g h old new (place + 1) (all ++ views ∷ [])
  one_shown_each old mid new place all views far one =
      let next : place + 1 ≡ suc place = omega arith in
      subst (λ n. ShowsEachSide g h old new n (all ++ views ∷ [])) (sym next) (record {
        was = λ sound. far.was (was sound);
        count = one.count ∙ far.count;
        is = λ sound s among.
            let there = far.is (was sound) s among in
            stayed g h mid new place _ one s there one.does.base (one.does.is (now_sound g h mid new place _ one sound) (world_at s place) (at_first g h mid new place _ one s there));
        shown = λ sound s among.
            let there = far.is (was sound) s among in
            ap (λ l. l ++ views ∷ []) (far.shown (was sound) s among)
            ∙ ap (λ vs. views_of s place ++ vs ∷ []) (one.does.shown (now_sound g h mid new place _ one sound) (world_at s place) (at_first g h mid new place _ one s there));
      })
    where
      was : AreSound g h new → AreSound g h mid
      was sound = sound_before g h mid new place _ one one.does.was sound

  -- ---- the whole run, printed

  each_counted : (asked : Bool) (old new : SharedWorld R J) (count : Option Count) → SettlesEachIf g h asked old new count → is_some count ≡ asked
  each_counted true old new (Some count) settles = refl
  each_counted true old new None settles = absurd settles
  each_counted false old new (Some count) settles = absurd settles
  each_counted false old new None settles = refl

  each_was : (asked : Bool) (old new : SharedWorld R J) (count : Option Count) → SettlesEachIf g h asked old new count → AreSound g h new → AreSound g h old
  each_was true old new (Some count) settles sound = settles.on.was sound
  each_was true old new None settles sound = absurd settles
  each_was false old new (Some count) settles sound = absurd settles
  each_was false old new None settles sound = subst (AreSound g h) settles sound

  each_many : (asked : Bool) (old new : SharedWorld R J) (count : Option Count) → SettlesEachIf g h asked old new count → length (seats_of new) ≡ length (seats_of old)
  each_many true old new (Some count) settles = settles.count
  each_many true old new None settles = absurd settles
  each_many false old new (Some count) settles = absurd settles
  each_many false old new None settles = ap (λ r. length (seats_of r)) settles

  each_reaches : (asked : Bool) (old new : SharedWorld R J) (count : Option Count) → SettlesEachIf g h asked old new count → AreSound g h new → {ours : ℕ → Names} (s : Shared) → AreAmong g h ours old s
      → (t : Shared) × ReachesEach s (length (seats_of old)) count t × AreAmong g h ours new t
  each_reaches true old new (Some count) settles sound s among = settles.is sound s among
  each_reaches true old new None settles sound s among = absurd settles
  each_reaches false old new (Some count) settles sound s among = absurd settles
  each_reaches false old new None settles sound {ours} s among = (s, refl, subst (λ r. AreAmong g h ours r s) (sym settles) among)

  pub all_printed_several : {W : Type 0} (contents : W → Option (List ℕ)) (first ran : SharedWorld R J) (registry : R) (journals : List J) (base : List ℕ) (turns : List TurnOf) (asked : Bool)
      (before between after : ReportLines TurnReport W) (printed : PrintedSeveral R J)
      → StartsSeveral g h registry journals base first → RunsTold (RunsSeveral g h) printed_reports (PrintsReport turn_text contents) first ran turns before between
      → EndsSeveral g h asked ran (contents between.out) (contents after.out) printed → after.reports ≡ between.reports
      → PrintsSeveral g h contents registry journals base turns asked before after printed
  all_printed_several contents first ran registry journals base turns asked before between after printed starts runs ends same = record {
    reports = runs.reports;
    count = ends.count;
    added = ap (λ v. v.items) same ∙ runs.tells.added;
    numbers = runs.runs.numbers;
    counted = each_counted asked ran ends.settled ends.count ends.settles;
    lines = Appends-trans (contents before.out) (contents between.out) (contents after.out) (report_lines turn_text (length before.reports.items + 1) runs.reports)
        (settled_lines ends.count ++ views_lines (map (λ views. views.items) printed.views.items))
        (lines_printed turn_text contents before runs.reports between runs.tells.done) ends.lines;
    so = λ faithful rows empty sound ours none_shared own.
        let at_end = ends.shows.was sound in
        let is_run = ran_several first ran registry journals base turns runs.reports starts runs.runs faithful rows empty (each_was asked ran ends.settled ends.count ends.settles at_end) ours none_shared own in
        let (t, reached, there) = each_reaches asked ran ends.settled ends.count ends.settles at_end (run_several nobody (turns_of turns)) is_run.is in
        record {
          ran = ran;
          run = is_run;
          last = t;
          reaches = subst (λ n. ReachesEach (run_several nobody (turns_of turns)) n ends.count t) many reached;
          shown = ends.shows.shown sound t there ∙ ap (views_of t) (each_many asked ran ends.settled ends.count ends.settles ∙ many);
        };
  }
    where
      many : length (seats_of ran) ≡ length journals
      many = runs.runs.count ∙ starts.count

-- ---- runs that ended early

-- memory ran out, which is no fault of a store
pub unstarted_memory : {J : Type 0} (h : Journals J) (journal : J) (fault : WorldFault) → fault ≡ Memory → FailsToStart h (journal ∷ []) fault
unstarted_memory h journal fault memory = record { place = 0; journal = journal; is_there = refl; left = journal; counted = subst (CountsWorldFault (h.faults journal) (h.faults journal)) (sym memory) refl }

pub unstarted_here : {J : Type 0} (h : Journals J) (journal left : J) (fault : WorldFault) → CountsWorldFault (h.faults journal) (h.faults left) fault → FailsToStart h (journal ∷ []) fault
unstarted_here h journal left fault counted = record { place = 0; journal = journal; is_there = refl; left = left; counted = counted }

pub opening_counts : (old new : ℕ) (fault : ConnectorOpenFault) → CountsOpen old new fault → CountsWorldFault old new (opening_fault fault)
opening_counts old new opening.Store counts = counts
opening_counts old new opening.Memory counts = counts

-- among more journals
only_one : {J : Type 0} (journal one : J) (place : ℕ) → slice_get (journal ∷ []) place ≡ Some one → journal ≡ one
only_one journal one zero at = cc at
only_one journal one (suc place) at = absurd (cc at)

pub unstarted_first : {J : Type 0} (h : Journals J) (journal : J) (more : List J) (fault : WorldFault) → FailsToStart h (journal ∷ []) fault → FailsToStart h (journal ∷ more) fault
unstarted_first h journal more fault f =
    record { place = 0; journal = journal; is_there = refl; left = f.left; counted = subst (λ j. CountsWorldFault (h.faults j) (h.faults f.left) fault) (sym (only_one journal f.journal f.place f.is_there)) f.counted }

pub unstarted_later : {J : Type 0} (h : Journals J) (first journal : J) (more : List J) (place : ℕ) (fault : WorldFault) → place < length more → journal ≡ get_or more place journal → FailsToStart h (journal ∷ []) fault
    → FailsToStart h (first ∷ more) fault
unstarted_later h first journal more place fault less at f = record {
  place = suc place;
  journal = journal;
  is_there = slice_get-get_or more place journal less ∙ ap Some (sym at);
  left = f.left;
  counted = subst (λ j. CountsWorldFault (h.faults j) (h.faults f.left) fault) (sym (only_one journal f.journal f.place f.is_there)) f.counted;
}

module _ {R J : Type 0} (g : Registries R) (h : Journals J) where
  pub stops_each : (old mid new : SharedWorld R J) (place exchanges : ℕ) (fault : WorldFault) → SettlesEach g h old mid place exchanges → StopsAt g h mid new place fault → StopsEach g h old new fault
  stops_each old mid new place exchanges fault settles stops = record { place = place; mid = mid; exchanges = exchanges; settles = settles; stops = stops }

  -- whatever fails after the turns
  pub stops_after_turns : {W T E : Type 0} (contents : W → Option (List ℕ)) (first ran : SharedWorld R J) (registry : R) (journals : List J) (base : List ℕ) (turns : List TurnOf) (before between after : ReportLines TurnReport W)
      (result : Result T (TellingFault E)) → StartsSeveral g h registry journals base first → RunsTold (RunsSeveral g h) printed_reports (PrintsReport turn_text contents) first ran turns before between → after.reports ≡ between.reports
      → IfErr result (EndsPrintingSeveral g h contents registry journals base turns before after)
  stops_after_turns contents first ran registry journals base turns before between after (Ok printed) starts runs same = tt
  stops_after_turns contents first ran registry journals base turns before between after (Err fault) starts runs same =
      inr (first, starts, inr (record { between = between; ran = ran; runs = runs; kept = same }))
