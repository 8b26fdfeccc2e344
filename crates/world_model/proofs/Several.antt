-- Several connectors that share a provider: to each side, the others are others who leave its records alone.
use Rattle.std.proofs.Common.{◌≡◌, ℕ, Bool, true, false, cond, ◌==◌, List, [], ◌∷◌, ◌++◌, Option, Some, None, refl, ap, sym, ◌∙◌, subst, inl, inr}
use Rattle.std.proofs.lemmas.Bool.{cases_Bool, eq-eqb, eqb-true, eqb-false, false_from_ne_true}
use Rattle.scim_key.specs.declared.records.RecordName.{RecordName}
use Rattle.scim_resource.specs.Contents.{content_name}
use Rattle.scim_resource.specs.declared.contents.Content.{Content}
use Rattle.scim_message.specs.declared.messages.Request.{Request}
use Rattle.scim_message.specs.declared.messages.Request.TheVariants.{Create, Retrieve, Search, Replace}
use Rattle.provider_core.specs.Stories.{Entry}
use Rattle.connector_core.specs.History.{History}
use Rattle.connector_core.specs.Asking.{asking}
use Rattle.connector_core.specs.declared.asking.Ask.{Ask}
use Rattle.connector_core.specs.declared.asking.Ask.TheVariants.{Nothing, Waits, Send}
use Rattle.world_model.specs.World.{World, Message, Asked, Answered, Event, Changes, Sends, Delivers, Cuts, Restarts_provider, Restarts_connector, Doubts, sends, delivers, message_at, happens, empty}
use Rattle.world_model.specs.Safe.{IsImage, Onward}
use Rattle.world_model.specs.Invariant.{Names, AllOurs, AskedTruly, InvariantOf}
use Rattle.world_model.specs.Others.{Act, Ours, Theirs, run_among, LeavesAlone, OfOurs, KeepsApart, HeadlineAmong, SafeAmong}
use Rattle.world_model.specs.Several.{Side, Shared, nobody, world_of, world_at, side_of, with_world, Turn, On, Elsewhere, happens_at, run_several, NoneShared, IsItsOwn, EachItsOwn, LeadsAmong, EachIsAmongOthers, HeadlineHoldsForEach, AlwaysSafeForEach, AlwaysOnwardForEach}
use Rattle.world_model.proofs.Headlines.{headline_holds_among}
use Rattle.world_model.proofs.Invariant.{message_there, among_inv, none_inv}
use Rattle.world_model.proofs.Onwards.{among-append, here_still, and_on, event_on, act_on}
use Rattle.world_model.proofs.Ranking.{record_ours}
use Rattle.world_model.proofs.Safety.{always_safe_among}

-- ---- acts that lead on

stays : (ours : Names) (w : World) → LeadsAmong ours w w
stays ours w = record { acts = []; apart = tt; leads = refl }

apart_both : (ours : Names) (early late : List Act) → KeepsApart ours early → KeepsApart ours late → KeepsApart ours (early ++ late)
apart_both ours [] late p q = q
apart_both ours (act ∷ early) late p q = (p.0, apart_both ours early late p.1 q)

further : {ours : Names} {u v w : World} → LeadsAmong ours u v → LeadsAmong ours v w → LeadsAmong ours u w
further {ours} {u} {v} {w} p q = record {
  acts = p.acts ++ q.acts;
  apart = apart_both ours p.acts q.acts p.apart q.apart;
  leads = among-append u p.acts q.acts ∙ ap (λ (x : World). run_among x q.acts) p.leads ∙ q.leads;
}

-- ---- what a connector asks for is of its own records

image_ours : (ours : Names) (history : History) (es : List Entry) (name : RecordName) (content : Content) → AllOurs ours history → IsImage history es name content → ours name ≡ true
image_ours ours history es name content mine image = record_ours ours history mine name image.row image.accepted

-- the names that are theirs aren't ours
abbrev IsApartFrom : Names → Names → Type 0
IsApartFrom theirs ours = (name : RecordName) → theirs name ≡ true → ours name ≡ false

asked_alone : (theirs ours : Names) (history : History) (es : List Entry) (request : Request) → IsApartFrom theirs ours → AllOurs theirs history → AskedTruly history es request
    → LeavesAlone ours request
asked_alone theirs ours history es (Create content) others mine asked = others (content_name content) (image_ours theirs history es (content_name content) content mine asked)
asked_alone theirs ours history es (Retrieve kind id if_match if_none_match) others mine asked = tt
asked_alone theirs ours history es (Search kind wanted start count) others mine asked = tt
asked_alone theirs ours history es (Replace id content if_match if_none_match) others mine asked =
    others (content_name content) (image_ours theirs history es (content_name content) content mine asked.image)

-- ---- what an event of another side is to a side

module _ (theirs ours : Names) (others : IsApartFrom theirs ours) (w : World) (inv : InvariantOf theirs w) (side : Side) where
  -- from the provider before it to the provider after it
  abbrev Leads : List Entry → Type 0
  Leads after = LeadsAmong ours (world_of w.entries side) (world_of after side)

  sending : (o : Option Ask) → Leads (sends w o).entries
  sending None = stays ours (world_of w.entries side)
  sending (Some Nothing) = stays ours (world_of w.entries side)
  sending (Some (Waits member)) = stays ours (world_of w.entries side)
  sending (Some (Send request)) = stays ours (world_of w.entries side)

  delivering : (number : ℕ) (o : Option Message) → message_at w.messages number ≡ o → Leads (delivers w o).entries
  delivering number None is = stays ours (world_of w.entries side)
  delivering number (Some (Asked request)) is =
      let (i, at) = message_there w.messages number (Asked request) is in
      record { acts = Theirs request ∷ []; apart = (asked_alone theirs ours w.history w.entries request others inv.mine (inv.told i (Asked request) at), tt); leads = refl }
  delivering number (Some (Answered request answer)) is = stays ours (world_of w.entries side)

  happening : (event : Event) → Leads (happens w event).entries
  happening (Changes row) = stays ours (world_of w.entries side)
  happening (Sends name) = sending (asking w.book name)
  happening (Delivers number) = delivering number (message_at w.messages number) refl
  happening (Cuts number length) = stays ours (world_of w.entries side)
  happening Restarts_provider = stays ours (world_of w.entries side)
  happening Restarts_connector = stays ours (world_of w.entries side)
  happening (Doubts name) = stays ours (world_of w.entries side)

-- ---- one event

abbrev seen : Shared → (place other : ℕ) → World → Bool → World
seen s place other w same = world_of w.entries (cond same (side_of w) (s.sides other))

pub at_same : (s : Shared) (place : ℕ) (w : World) → world_at (with_world s place w) place ≡ w
at_same s place w = ap (seen s place place w) (eq-eqb place place refl)

pub at_other : (s : Shared) (place other : ℕ) (w : World) → (place == other) ≡ false → world_at (with_world s place w) other ≡ world_of w.entries (s.sides other)
at_other s place other w apart = ap (seen s place other w) apart

-- the invariant of every side
abbrev pub AllHold : (ours : ℕ → Names) → Shared → Type 0
AllHold ours s = (place : ℕ) → InvariantOf (ours place) (world_at s place)

module _ (ours : ℕ → Names) (none_shared : NoneShared ours) where
  -- from the world of a side before a turn to its world after it
  abbrev OneTurn : Shared → Turn → (place : ℕ) → Type 0
  OneTurn s turn place = LeadsAmong (ours place) (world_at s place) (world_at (happens_at s turn) place)

  its_turn : (s : Shared) (place : ℕ) (event : Event) → OfOurs (ours place) event → OneTurn s (On place event) place
  its_turn s place event own = record {
    acts = Ours event ∷ [];
    apart = (own, tt);
    leads = sym (at_same s place (happens (world_at s place) event));
  }

  others_turn : (s : Shared) (other : ℕ) (event : Event) (place : ℕ) → (other == place) ≡ false → AllHold ours s → OneTurn s (On other event) place
  others_turn s other event place apart inv =
      let w = world_at s other in
      let others : IsApartFrom (ours other) (ours place) = λ name theirs.
      false_from_ne_true _ (λ mine. eqb-false other place apart (none_shared other place name theirs mine)) in
      subst (LeadsAmong (ours place) (world_at s place)) (sym (at_other s other place (happens w event) apart))
      (happening (ours other) (ours place) others w (inv other) (s.sides place) event)

  one_turn : (s : Shared) (turn : Turn) → IsItsOwn ours turn → AllHold ours s → (place : ℕ) → OneTurn s turn place
  one_turn s (On other event) own inv place = elim (cases_Bool (other == place)) [
    | inl same ↦ subst (λ (q : ℕ). OneTurn s (On other event) q) (eqb-true other place same) (its_turn s other event own)
    | inr apart ↦ others_turn s other event place apart inv
  ]
  one_turn s (Elsewhere request) own inv place = record { acts = Theirs request ∷ []; apart = (own place, tt); leads = refl }

  led : {names : Names} {w v : World} → InvariantOf names w → LeadsAmong names w v → InvariantOf names v
  led {names} {w} {v} inv leads = subst (InvariantOf names) leads.leads (among_inv w leads.acts leads.apart inv)

  pub all_hold : (s : Shared) (turn : Turn) → IsItsOwn ours turn → AllHold ours s → AllHold ours (happens_at s turn)
  all_hold s turn own inv place = led (inv place) (one_turn s turn own inv place)

  -- ---- all runs

  pub turns_lead : (s : Shared) (turns : List Turn) → EachItsOwn ours turns → AllHold ours s → (place : ℕ) → LeadsAmong (ours place) (world_at s place) (world_at (run_several s turns) place)
  turns_lead s [] own inv place = stays (ours place) (world_at s place)
  turns_lead s (turn ∷ turns) own inv place =
      further (one_turn s turn own.0 inv place) (turns_lead (happens_at s turn) turns own.1 (all_hold s turn own.0 inv) place)

  turns_hold : (s : Shared) (turns : List Turn) → EachItsOwn ours turns → AllHold ours s → AllHold ours (run_several s turns)
  turns_hold s turns own inv place = led (inv place) (turns_lead s turns own inv place)

  pub none_hold : AllHold ours nobody
  none_hold place = none_inv (ours place)

several-append : (s : Shared) (early late : List Turn) → run_several s (early ++ late) ≡ run_several (run_several s early) late
several-append s [] late = refl
several-append s (turn ∷ early) late = several-append (happens_at s turn) early late

own_early : (ours : ℕ → Names) (early late : List Turn) → EachItsOwn ours (early ++ late) → EachItsOwn ours early
own_early ours [] late own = tt
own_early ours (turn ∷ early) late own = (own.0, own_early ours early late own.1)

own_late : (ours : ℕ → Names) (early late : List Turn) → EachItsOwn ours (early ++ late) → EachItsOwn ours late
own_late ours [] late own = own
own_late ours (turn ∷ early) late own = own_late ours early late own.1

-- ---- the laws

pub each_is_among_others : EachIsAmongOthers
each_is_among_others ours turns none_shared own place = turns_lead ours none_shared nobody turns own (none_hold ours none_shared) place

-- two parts of a run, as a side sees them
record Parts (ours : Names) (w v : World) : Type 0 where
  early : List Act
  late : List Act
  apart : KeepsApart ours (early ++ late)
  leads_early : run_among empty early ≡ w
  leads_late : run_among empty (early ++ late) ≡ v

module _ (ours : ℕ → Names) (early late : List Turn) (none_shared : NoneShared ours) (own : EachItsOwn ours (early ++ late)) (place : ℕ) where
  abbrev then : Shared
  then = run_several nobody early

  abbrev now : Shared
  now = run_several nobody (early ++ late)

  parts : Parts (ours place) (world_at then place) (world_at now place)
  unfolding further
  parts =
      let own_then = own_early ours early late own in
      let first = each_is_among_others ours early none_shared own_then place in
      let next = turns_lead ours none_shared then late (own_late ours early late own) (turns_hold ours none_shared nobody early own_then (none_hold ours none_shared)) place in
      let whole = further first next in
      record {
        early = first.acts;
        late = next.acts;
        apart = whole.apart;
        leads_early = first.leads;
        leads_late = whole.leads ∙ ap (λ (s : Shared). world_at s place) (sym (several-append nobody early late));
      }

  headline_for : HeadlineAmong (ours place) (world_at then place) (world_at now place)
  headline_for =
      let p = parts in
      subst (λ (w : World). HeadlineAmong (ours place) w (world_at now place)) p.leads_early
      (subst (λ (v : World). HeadlineAmong (ours place) (run_among empty p.early) v) p.leads_late
      (headline_holds_among (ours place) p.early p.late p.apart))

pub headline_holds_for_each : HeadlineHoldsForEach
headline_holds_for_each = headline_for

-- whatever happens on another side, nothing of this one is lost
other_on : (s : Shared) (other : ℕ) (event : Event) (place : ℕ) → Onward (world_at s place) (world_of (happens (world_at s other) event).entries (s.sides place))
other_on s other event place =
    let still = here_still (world_at s place) in
    record { rows = still.rows; stories = (event_on (world_at s other) event).stories; messages = still.messages; confirmed = still.confirmed }

one_on : (s : Shared) (turn : Turn) (place : ℕ) → Onward (world_at s place) (world_at (happens_at s turn) place)
one_on s (On other event) place =
    let v = happens (world_at s other) event in
    elim (cases_Bool (other == place)) [
      | inl same ↦
          subst (λ (q : ℕ). Onward (world_at s q) (world_at (happens_at s (On other event)) q)) (eqb-true other place same)
          (subst (λ (w : World). Onward (world_at s other) w) (sym (at_same s other v)) (event_on (world_at s other) event))
      | inr apart ↦ subst (λ (w : World). Onward (world_at s place) w) (sym (at_other s other place v apart)) (other_on s other event place)
    ]
one_on s (Elsewhere request) place = act_on (world_at s place) (Theirs request)

turns_on : (s : Shared) (turns : List Turn) (place : ℕ) → Onward (world_at s place) (world_at (run_several s turns) place)
turns_on s [] place = here_still (world_at s place)
turns_on s (turn ∷ turns) place =
    let then = happens_at s turn in
    and_on (world_at s place) (world_at then place) (world_at (run_several then turns) place) (one_on s turn place) (turns_on then turns place)

pub always_onward_for_each : AlwaysOnwardForEach
always_onward_for_each early late place =
    let then = run_several nobody early in
    subst (λ (s : Shared). Onward (world_at then place) (world_at s place)) (sym (several-append nobody early late)) (turns_on then late place)

pub always_safe_for_each : AlwaysSafeForEach
always_safe_for_each ours turns none_shared own place =
    let among = each_is_among_others ours turns none_shared own place in
    subst (λ (w : World). SafeAmong (ours place) w) among.leads (always_safe_among (ours place) among.acts among.apart)
