-- Several connectors over one provider: one turn, turns one after the other, and from empty stores.
use Rattle.std.proofs.Common.{arith, ◌≡◌, ◌≢◌, ◌<◌, ◌+◌, ◌==◌, ℕ, zero, suc, true, false, List, [], ◌∷◌, Option, Some, None, map, length, refl, ap, sym, subst, inl, inr, ◌∙◌}
use Rattle.std.proofs.Math.ListN.{set}
use Rattle.std.proofs.lemmas.Bool.{cases_Bool, eqb-true, eqb-false, false_from_ne_true}
use Rattle.std.proofs.lemmas.List.{length-set}
use Rattle.std.proofs.lemmas.Option.{slice_get_within}
use Rattle.std.specs.List.{AllByRecursion, slice_get}
use Rattle.scim_key.specs.Bases.{IsBase}
use Rattle.scim_resource.specs.Contents.{content_name}
use Rattle.scim_resource.specs.declared.contents.Content.{Content}
use Rattle.scim_message.specs.declared.messages.Request.{Request}
use Rattle.scim_message.specs.declared.messages.Request.TheVariants.{Create, Retrieve, Search, Replace}
use Rattle.provider_core.specs.Stories.{Entry}
use Rattle.provider_core.specs.declared.registry.Registry.{Ghosts as Registries}
use Rattle.journal_core.specs.declared.journals.Journal.{Ghosts as Journals}
use Rattle.connector_core.specs.Asking.{asking}
use Rattle.connector_core.specs.History.{History}
use Rattle.connector_core.specs.declared.asking.Ask.{Ask}
use Rattle.connector_core.specs.declared.asking.Ask.TheVariants.{Nothing, Waits, Send}
use Rattle.world_model.specs.Invariant.{Names, AllOurs, AskedTruly, InvariantOf}
use Rattle.world_model.specs.Others.{Ours, Theirs, LeavesAlone, OfOurs}
use Rattle.world_model.specs.Safe.{IsImage}
use Rattle.world_model.specs.Several.{Shared, Side, world_of, world_at, with_world}
use Rattle.world_model.specs.World.{World, Message, Asked, Answered, Event, run, Changes, Sends, Delivers, Cuts, Restarts_provider, Restarts_connector, Doubts, empty, happens, sends, delivers, message_at}
use Rattle.world_model.proofs.Invariant.{message_there, among_inv, none_inv}
use Rattle.world_model.proofs.Ranking.{record_ours}
use Rattle.world_model.proofs.Several.{at_same, at_other}
use Rattle.world_sim.specs.Messages.{message_text}
use Rattle.world_sim.specs.Running.{Happens, IsAmong, IsReachedAmong, IsSound, from_empty, journal_in}
use Rattle.world_sim.specs.Settling.{Settles}
use Rattle.world_sim.specs.Several.{AreAmong, AreOpen, AreSound, HappensAt, IsDoneAt, IsSeatAt, SettlesAt, others_with, seat_of, seated, seats_of}
use Rattle.world_sim.specs.declared.reports.Report.{Report as ReportOf}
use Rattle.world_sim.specs.declared.settling.Count.{Count}
use Rattle.world_sim.specs.declared.several.Seat.{Seat}
use Rattle.world_sim.specs.declared.several.SharedWorld.{SharedWorld}
use Rattle.world_sim.specs.declared.worlds.World.{World as Running}
use Rattle.world_sim.proofs.Reaching.{formed_same, reaches}
use Rattle.world_sim.proofs.SettlingLemmas.{done_is, own_events}

-- ---- an element that is put into a list

pub put_same : {X : Type 0} (xs : List X) (i : ℕ) (x : X) → i < length xs → slice_get (set xs i x) i ≡ Some x
put_same [] i x less = absurd (omega (arith, less))
put_same (y ∷ xs) zero x less = refl
put_same (y ∷ xs) (suc i) x less = put_same xs i x (omega (arith, less))

pub put_other : {X : Type 0} (xs : List X) (i j : ℕ) (x : X) → i ≢ j → slice_get (set xs i x) j ≡ slice_get xs j
put_other [] i j x apart = refl
put_other (y ∷ xs) zero zero x apart = absurd (apart refl)
put_other (y ∷ xs) zero (suc j) x apart = refl
put_other (y ∷ xs) (suc i) zero x apart = refl
put_other (y ∷ xs) (suc i) (suc j) x apart = put_other xs i j x (λ same. apart (ap suc same))

-- ---- a side in the world for its turn

module _ {R J : Type 0} where
  -- a side is put into the world, does something there, and is put back
  pub done_at : (r0 r1 r2 r3 : SharedWorld R J) (place : ℕ) (deed : Running R J → Running R J → Type 0)
      → IsSeatAt r0 place (seat_of r1.first) → r1.first ≡ seated r0.first (seat_of r1.first) → r1.others.items ≡ others_with place (seat_of r0.first) r0.others.items
      → r2.others.items ≡ r1.others.items → deed r1.first r2.first
      → IsSeatAt r2 place (seat_of r3.first) → r3.first ≡ seated r2.first (seat_of r3.first) → r3.others.items ≡ others_with place (seat_of r2.first) r2.others.items
      → IsDoneAt r0 r3 place deed
  done_at r0 r1 r2 r3 place deed there in_world away same did back out_of_world home = record {
    before = seat_of r1.first;
    after = seat_of r2.first;
    was_there = there;
    is_there = is_there place back home;
    does = subst (λ w. deed w (seated r3.first (seat_of r2.first))) in_world (subst (deed r1.first) (sym (ap (λ w. seated w (seat_of r2.first)) out_of_world)) did);
    others = λ other apart. others place other apart there away back home;
    count = ap suc (count place away home);
  }
    where
      count : (place : ℕ) → r1.others.items ≡ others_with place (seat_of r0.first) r0.others.items → r3.others.items ≡ others_with place (seat_of r2.first) r2.others.items
          → length r3.others.items ≡ length r0.others.items
      count zero away home = ap length (home ∙ same ∙ away)
      count (suc k) away home = ap length home ∙ length-set r2.others.items k (seat_of r2.first) ∙ ap length (same ∙ away) ∙ length-set r0.others.items k (seat_of r0.first)

      is_there : (place : ℕ) → IsSeatAt r2 place (seat_of r3.first) → r3.others.items ≡ others_with place (seat_of r2.first) r2.others.items → IsSeatAt r3 place (seat_of r2.first)
      is_there zero back home = sym back
      is_there (suc k) back home = ap (λ l. slice_get l k) home ∙ put_same r2.others.items k (seat_of r2.first) (slice_get_within r2.others.items k (seat_of r3.first) back)

      others : (place other : ℕ) → place ≢ other → IsSeatAt r0 place (seat_of r1.first) → r1.others.items ≡ others_with place (seat_of r0.first) r0.others.items
          → IsSeatAt r2 place (seat_of r3.first) → r3.others.items ≡ others_with place (seat_of r2.first) r2.others.items
          → slice_get (seats_of r3) other ≡ slice_get (seats_of r0) other
      others zero zero apart there away back home = absurd (apart refl)
      others zero (suc j) apart there away back home = ap (λ l. slice_get l j) (home ∙ same ∙ away)
      others (suc k) zero apart there away back home =
          sym back ∙ ap (λ l. slice_get l k) (same ∙ away) ∙ put_same r0.others.items k (seat_of r0.first) (slice_get_within r0.others.items k (seat_of r1.first) there)
      others (suc k) (suc j) apart there away back home =
          let apart_behind : k ≢ j = (λ alike. apart (ap suc alike)) in
          ap (λ l. slice_get l j) home ∙ put_other r2.others.items k j (seat_of r2.first) apart_behind
          ∙ ap (λ l. slice_get l j) (same ∙ away) ∙ put_other r0.others.items k j (seat_of r0.first) apart_behind

  -- there is one side at a place
  one_seat : (r : SharedWorld R J) (place : ℕ) (one two : Seat J) → IsSeatAt r place one → IsSeatAt r place two → one ≡ two
  one_seat r place one two p q = let e : Some one ≡ Some two = sym p ∙ q in cc e

-- ---- what another connector's event is to a side

image_ours : (ours : Names) (history : History) (es : List Entry) (name : _) (content : Content) → AllOurs ours history → IsImage history es name content → ours name ≡ true
image_ours ours history es name content mine image = record_ours ours history mine name image.row image.accepted

module _ (theirs ours : Names) (apart : (name : _) → theirs name ≡ true → ours name ≡ false) where
  asked_alone : (history : History) (es : List Entry) (request : Request) → AllOurs theirs history → AskedTruly history es request → LeavesAlone ours request
  asked_alone history es (Create content) mine asked = apart (content_name content) (image_ours theirs history es (content_name content) content mine asked)
  asked_alone history es (Retrieve kind id if_match if_none_match) mine asked = tt
  asked_alone history es (Search kind wanted start count) mine asked = tt
  asked_alone history es (Replace id content if_match if_none_match) mine asked = apart (content_name content) (image_ours theirs history es (content_name content) content mine asked.image)

  module _ (w : World) (inv : InvariantOf theirs w) (side : Side) (here : IsReachedAmong (from_empty ours) (world_of w.entries side)) where
    reached_sending : (o : Option Ask) → IsReachedAmong (from_empty ours) (world_of (sends w o).entries side)
    reached_sending None = here
    reached_sending (Some Nothing) = here
    reached_sending (Some (Waits member)) = here
    reached_sending (Some (Send request)) = here

    reached_delivering : (number : ℕ) (o : Option Message) → message_at w.messages number ≡ o → IsReachedAmong (from_empty ours) (world_of (delivers w o).entries side)
    reached_delivering number None is = here
    reached_delivering number (Some (Asked request)) is =
        let (i, at) = message_there w.messages number (Asked request) is in
        reaches (world_of w.entries side) (Theirs request) (asked_alone w.history w.entries request inv.mine (inv.told i (Asked request) at)) tt here
    reached_delivering number (Some (Answered request answer)) is = here

    pub reached_other : (event : Event) → IsReachedAmong (from_empty ours) (world_of (happens w event).entries side)
    reached_other (Changes row) = here
    reached_other (Sends name) = reached_sending (asking w.book name)
    reached_other (Delivers number) = reached_delivering number (message_at w.messages number) refl
    reached_other (Cuts number length) = here
    reached_other Restarts_provider = here
    reached_other Restarts_connector = here
    reached_other (Doubts name) = here

-- the same of events one after the other
pub reached_run : (theirs ours : Names) (apart : (name : _) → theirs name ≡ true → ours name ≡ false) (side : Side) (w : World) (events : List Event) → AllByRecursion (OfOurs theirs) events → InvariantOf theirs w
    → IsReachedAmong (from_empty ours) (world_of w.entries side) → IsReachedAmong (from_empty ours) (world_of (run w events).entries side)
reached_run theirs ours apart side w [] own inv here = here
reached_run theirs ours apart side w (event ∷ events) own inv here =
    reached_run theirs ours apart side (happens w event) events own.1 (among_inv w (Ours event ∷ []) (own.0, tt) inv) (reached_other theirs ours apart w inv side here event)

pub reached_inv : (ours : Names) (w : World) → IsReachedAmong (from_empty ours) w → InvariantOf ours w
reached_inv ours w r = subst (InvariantOf ours) r.is (among_inv empty r.acts r.apart (none_inv ours))

-- ---- what is done on one side, to all

module _ {R J : Type 0} (g : Registries R) (h : Journals J) (old new : SharedWorld R J) (place : ℕ) (deed : Running R J → Running R J → Type 0) (done : IsDoneAt old new place deed) where
  pub now_sound : AreSound g h new → IsSound g h (seated new.first done.after)
  now_sound sound = sound place done.after done.is_there

  pub sound_before : (IsSound g h (seated new.first done.after) → IsSound g h (seated old.first done.before)) → AreSound g h new → AreSound g h old
  sound_before was sound other seat at = elim (cases_Bool (place == other)) [
    | inl same ↦
        let e : done.before ≡ seat = one_seat old place done.before seat done.was_there (subst (λ q. IsSeatAt old q seat) (sym (eqb-true place other same)) at) in
        subst (λ s. IsSound g h (seated old.first s)) e (was (now_sound sound))
    | inr apart ↦
        let there : IsSeatAt new other seat = done.others other (eqb-false place other apart) ∙ at in
        record { registry = (was (now_sound sound)).registry; journal = (sound other seat there).journal }
  ]

  pub open_after : (h.is_faithful (journal_in done.before.connector) → h.is_faithful (journal_in done.after.connector)) → AreOpen h old → AreOpen h new
  open_after kept opened other seat at = elim (cases_Bool (place == other)) [
    | inl same ↦
        let e : done.after ≡ seat = one_seat new place done.after seat done.is_there (subst (λ q. IsSeatAt new q seat) (sym (eqb-true place other same)) at) in
        subst (λ (s : Seat J). h.is_faithful (journal_in s.connector)) e (kept (opened place done.before done.was_there))
    | inr apart ↦ opened other seat (sym (done.others other (eqb-false place other apart)) ∙ at)
  ]

  module _ {ours : ℕ → Names} (s : Shared) (among : AreAmong g h ours old s) where
    -- the world of the side before
    pub at_first : IsAmong g h (from_empty (ours place)) (seated old.first done.before) (world_at s place)
    at_first = among.each place done.before done.was_there

    pub names_apart : (other : ℕ) → (place == other) ≡ false → (name : _) → ours place name ≡ true → ours other name ≡ false
    names_apart other apart name its = false_from_ne_true _ (λ also. eqb-false place other apart (among.none_shared place other name its also))

    module _ (base : new.first.service ≡ old.first.service) (v : World) (mine : IsAmong g h (from_empty (ours place)) (seated new.first done.after) v)
        (reached : (other : ℕ) → (place == other) ≡ false → IsReachedAmong (from_empty (ours other)) (world_at s other) → IsReachedAmong (from_empty (ours other)) (world_of v.entries (s.sides other))) where
      other_side : (other : ℕ) (seat : Seat J) → (place == other) ≡ false → IsSeatAt new other seat
          → IsAmong g h (from_empty (ours other)) (seated new.first seat) (world_of v.entries (s.sides other))
      other_side other seat apart at =
          let theirs : IsAmong g h (from_empty (ours other)) (seated old.first seat) (world_at s other) = among.each other seat (sym (done.others other (eqb-false place other apart)) ∙ at) in
          record {
            mirrors = record {
              rows = mine.mirrors.rows;
              found = mine.mirrors.found;
              table = mine.mirrors.table;
              book = theirs.mirrors.book;
              kept = theirs.mirrors.kept;
              messages = theirs.mirrors.messages;
              texts = theirs.mirrors.texts ∙ ap (λ b. map (message_text b) (world_at s other).messages) (sym base);
              formed = formed_same old.first.service new.first.service (world_at s other).messages base theirs.mirrors.formed;
            };
            base = subst IsBase (sym base) theirs.base;
            reached = reached other apart theirs.reached;
          }

      each_after : (other : ℕ) (seat : Seat J) → IsSeatAt new other seat → IsAmong g h (from_empty (ours other)) (seated new.first seat) (world_at (with_world s place v) other)
      each_after other seat at = elim (cases_Bool (place == other)) [
        | inl same ↦
            let here : IsSeatAt new place seat = subst (λ q. IsSeatAt new q seat) (sym (eqb-true place other same)) at in
            let e : done.after ≡ seat = one_seat new place done.after seat done.is_there here in
            subst (λ q. IsAmong g h (from_empty (ours q)) (seated new.first seat) (world_at (with_world s place v) q)) (eqb-true place other same)
            (subst (λ t. IsAmong g h (from_empty (ours place)) (seated new.first t) (world_at (with_world s place v) place)) e
            (subst (λ u. IsAmong g h (from_empty (ours place)) (seated new.first done.after) u) (sym (at_same s place v)) mine))
        | inr apart ↦
            subst (λ u. IsAmong g h (from_empty (ours other)) (seated new.first seat) u) (sym (at_other s place other v apart)) (other_side other seat apart at)
      ]

      pub moved : AreAmong g h ours new (with_world s place v)
      moved = record { none_shared = among.none_shared; each = each_after }

    -- a side that stays in its world
    stays_at : (other : ℕ) → world_at (with_world s place (world_at s place)) other ≡ world_at s other
    stays_at other = elim (cases_Bool (place == other)) [
      | inl same ↦ subst (λ q. world_at (with_world s place (world_at s place)) q ≡ world_at s q) (eqb-true place other same) (at_same s place (world_at s place))
      | inr apart ↦ at_other s place other (world_at s place) apart
    ]

    pub stayed : new.first.service ≡ old.first.service → IsAmong g h (from_empty (ours place)) (seated new.first done.after) (world_at s place) → AreAmong g h ours new s
    stayed base mine =
        let all = moved base (world_at s place) mine (λ other apart here. here) in
        record { none_shared = all.none_shared; each = λ other seat at. subst (λ u. IsAmong g h (from_empty (ours other)) (seated new.first seat) u) (stays_at other) (all.each other seat at) }

-- ---- one turn

module _ {R J : Type 0} (g : Registries R) (h : Journals J) where
  pub happens_there : (old new : SharedWorld R J) (place : ℕ) (event : Event) (said : ReportOf) → IsDoneAt old new place (λ was is. Happens g h was is event said)
      → HappensAt g h old new place event (record { connector = place + 1; report = said })
  happens_there old new place event said done = record {
    done = done;
    on = record {
      was = sound_before g h old new place _ done done.does.was;
      base = done.does.base;
      stays_open = λ sound faithful. done.does.stays_open (now_sound g h old new place _ done sound) faithful;
      journals_open = λ sound opened. open_after g h old new place _ done (done.does.journal_open (now_sound g h old new place _ done sound)) opened;
    };
    is = λ sound {ours} s among own.
        let w = world_at s place in
        let first = at_first g h old new place _ done s among in
        moved g h old new place _ done s among done.does.base (happens w event) (done.does.is (now_sound g h old new place _ done sound) w first own)
        (λ other apart here. reached_other (ours place) (ours other) (names_apart g h old new place _ done s among other apart) w (reached_inv (ours place) w first.reached) (s.sides other) here event);
    number = refl;
    says = λ sound s among. done.does.report (now_sound g h old new place _ done sound) (world_at s place) (at_first g h old new place _ done s among);
  }

  -- the same of a run to convergence
  pub settles_there : (old new : SharedWorld R J) (place : ℕ) (count : Count) → IsDoneAt old new place (λ was is. Settles g h was is count) → SettlesAt g h old new place count
  settles_there old new place count done = record {
    done = done;
    on = record {
      was = sound_before g h old new place _ done done.does.done.runs.was;
      base = done.does.done.runs.base;
      stays_open = λ sound faithful. done.does.done.runs.stays_open (now_sound g h old new place _ done sound) faithful;
      journals_open = λ sound opened. open_after g h old new place _ done (done.does.done.runs.journal_open (now_sound g h old new place _ done sound)) opened;
    };
    is = λ sound {ours} s among.
        let w = world_at s place in
        let events = done.does.done.events in
        let first = at_first g h old new place _ done s among in
        let here = now_sound g h old new place _ done sound in (
          run w events,
          done.does.among here w first refl,
          moved g h old new place _ done s among done.does.done.runs.base (run w events) (done_is g h done.does.done here w first)
              (λ other apart there. reached_run (ours place) (ours other) (names_apart g h old new place _ done s among other apart) (s.sides other) w events (own_events (ours place) events done.does.done.only)
              (reached_inv (ours place) w first.reached) there),
        );
  }
