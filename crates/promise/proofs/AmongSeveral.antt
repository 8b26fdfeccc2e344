-- To each of several connectors that share a provider, the others are others who leave its records alone.
use Rattle.std.proofs.Common.{◌≡◌, ℕ, Bool, true, false, cond, ◌==◌, List, Option, Ok, refl, ap, sym, subst, ◌∙◌, inl, inr}
use Rattle.std.proofs.lemmas.Bool.{cases_Bool, eq-eqb, eqb-true, eqb-false, false_from_ne_true}
use Rattle.std.specs.FinMap.{keys}
use Rattle.std.specs.Prelude.{◌⊎◌}
use Rattle.scim_key.specs.Bases.{IsBase}
use Rattle.scim_key.specs.declared.records.RecordName.{RecordName}
use Rattle.scim_resource.specs.Contents.{content_name}
use Rattle.scim_message.specs.declared.messages.Request.{Request}
use Rattle.scim_message.specs.declared.messages.Request.TheVariants.{Create, Retrieve, Search, Replace}
use Rattle.provider_core.specs.Stories.{Entry}
use Rattle.provider_core.specs.declared.registry.Registry.{Ghosts as Registries}
use Rattle.http_text.specs.Forms.{IsRequestMessage}
use Rattle.http_text.specs.Message.{Message}
use Rattle.scim_http.proofs.MeaningLaws.{one_meaning}
use Rattle.scim_client.specs.Requests.{text_of}
use Rattle.journal_core.specs.declared.journals.Journal.{Ghosts as Journals}
use Rattle.connector_core.specs.Changing.{names_of}
use Rattle.connector_core.specs.History.{History}
use Rattle.world_model.specs.World.{Asked, empty}
use Rattle.world_model.specs.Invariant.{AllOurs, AskedTruly, Names}
use Rattle.world_model.specs.Others.{LeavesAlone, run_among}
use Rattle.world_model.specs.Safe.{Has}
use Rattle.world_model.specs.Several.{NoneShared}
use Rattle.world_model.proofs.Invariant.{always_inv_among}
use Rattle.world_model.proofs.Ranking.{record_ours}
use Rattle.world_sim.proofs.Fitting.{messages_are_read_among}
use Rattle.promise.specs.Among.{AsksAlone, StepAmong.mine, StepAmong.theirs as elsewhere_served, TraceAmong, TraceAmong.here, TraceAmong.next}
use Rattle.promise.specs.AmongSeveral.{Shared, StepOfSeveral, StepOfSeveral.on, StepOfSeveral.elsewhere, TraceOfSeveral, TraceOfSeveral.here as nothing_yet, TraceOfSeveral.next as after, TracesOfSeveralAreRuns, nobody, side_of, state_at, state_of, with_state}
use Rattle.promise.specs.AmongTyped.{HasOurs}
use Rattle.promise.specs.Traces.{IsAtFront, State, Step, Step.offers, Step.asks, Step.serves, Step.hears, Step.doubts, Step.reopens, Step.rests, start}
use Rattle.promise.specs.Typed as own
use Rattle.promise.specs.AmongTyped as typed
use Rattle.promise.proofs.AmongTraces.{IsNamed, alone_if, along, mine_keeps, mine_named, traces_are_runs_among}
use Rattle.promise.proofs.AmongTyped.{Keeps, ran, rows_ours}
use Rattle.promise.proofs.Traces.{Settles, meant, same_request, spoken_start}
use Rattle.promise.proofs.Typed.{at_start, keys-empty}

-- ---- what a connector asks for leaves the records of others alone

-- the names that are theirs aren't ours
abbrev IsApartFrom : Names → Names → Type 0
IsApartFrom theirs ours = (name : RecordName) → theirs name ≡ true → ours name ≡ false

asked_alone : (theirs ours : Names) (history : History) (es : List Entry) (request : Request) → IsApartFrom theirs ours → AllOurs theirs history → AskedTruly history es request → LeavesAlone ours request
asked_alone theirs ours history es (Create content) apart all asked = apart (content_name content) (record_ours theirs history all (content_name content) asked.row asked.accepted)
asked_alone theirs ours history es (Retrieve kind id if_match if_none_match) apart all asked = tt
asked_alone theirs ours history es (Search kind wanted begin count) apart all asked = tt
asked_alone theirs ours history es (Replace id content if_match if_none_match) apart all asked =
    apart (content_name content) (record_ours theirs history all (content_name content) asked.image.row asked.image.accepted)

module _ {R J I O P Q : Type 0} (g : Registries R) (h : Journals J) (received : I → Option (List ℕ)) (posted : O → Option (List ℕ)) (remaining : P → Option (List ℕ)) (contents : Q → Option (List ℕ)) (settled : Settles g) (base : List ℕ) (is_base : IsBase base) where
  -- whatever message is at the front of what it sent
  sent_alone : (theirs ours : Names) (s : State) → IsApartFrom theirs ours → AllOurs theirs s.history → TraceAmong g h received posted remaining contents base theirs start s → (request : Request) → Has s.sent request
      → (m : Message) → IsAtFront IsRequestMessage (text_of base request) m → AsksAlone ours m
  sent_alone theirs ours s apart all trace request has m front x asks_x =
      let on_it = along g h received posted remaining contents settled base theirs is_base start s own.start all typed.here (spoken_start base) trace in
      let r = ran theirs own.start on_it.later empty (subst (AllOurs theirs) on_it.spoken.history all) on_it.trace at_start in
      let was_sent = r.mirrors.sent request (subst (λ sent. Has sent request) on_it.spoken.sent has) in
      let inv = always_inv_among theirs r.led r.apart in
      let w = run_among empty r.led in
      let spells = messages_are_read_among base theirs r.led (Asked request) is_base r.apart r.lawful was_sent (on_it.spoken.formed request has) in
      let same = same_request x request (one_meaning m (Ok request) (Ok x) (meant m (text_of base request) request front spells) asks_x) in
      subst (LeavesAlone ours) same (asked_alone theirs ours w.history w.entries request apart inv.mine (inv.told was_sent.0 (Asked request) was_sent.1))

  -- ---- a step of another side

  abbrev Goes : Names → State → State → Type 0
  Goes names a b = TraceAmong g h received posted remaining contents base names a b

  -- p is the state of a side, with the same rows as that of the other
  others_step : (theirs ours : Names) (a b p : State) → a.rows ≡ p.rows → IsApartFrom theirs ours → AllOurs theirs a.history → Goes theirs start a → Step g h received posted remaining contents base a b
      → Goes ours p (record p { rows = b.rows })
  others_step theirs ours a b p same apart all trace (serves request rows out s) =
      next here (elsewhere_served rows (record {
        before = s.before;
        after = s.after;
        reader = s.reader;
        writer = s.writer;
        served = s.served;
        is = s.is;
        was = s.was ∙ same;
        alone = alone_if ours (text_of base request) s.is.replied.read (sent_alone theirs ours a apart all trace request s.sent) s.came;
        finds = s.finds;
      }))
  others_step theirs ours a b p same apart all trace (offers row law) = subst (λ rows. Goes ours p (record p { rows = rows })) (sym same) here
  others_step theirs ours a b p same apart all trace (asks name request is formed) = subst (λ rows. Goes ours p (record p { rows = rows })) (sym same) here
  others_step theirs ours a b p same apart all trace (hears request book x) = subst (λ rows. Goes ours p (record p { rows = rows })) (sym same) here
  others_step theirs ours a b p same apart all trace (doubts name book is names) = subst (λ rows. Goes ours p (record p { rows = rows })) (sym same) here
  others_step theirs ours a b p same apart all trace (reopens found book are is) = subst (λ rows. Goes ours p (record p { rows = rows })) (sym same) here
  others_step theirs ours a b p same apart all trace rests = subst (λ rows. Goes ours p (record p { rows = rows })) (sym same) here

  -- ---- one step

  abbrev seen : Shared → (other : ℕ) → State → Bool → State
  seen s other t same = state_of t.rows (cond same (side_of t) (s.sides other))

  at_same : (s : Shared) (place : ℕ) (t : State) → state_at (with_state s place t) place ≡ t
  at_same s place t = ap (seen s place t) (eq-eqb place place refl)

  at_other : (s : Shared) (place other : ℕ) (t : State) → (place == other) ≡ false → state_at (with_state s place t) other ≡ state_of t.rows (s.sides other)
  at_other s place other t apart = ap (seen s other t) apart

  module _ (ours : ℕ → Names) where
    abbrev Steps : Shared → Shared → Type 0
    Steps a b = StepOfSeveral g h received posted remaining contents base ours a b

    abbrev Traces : Shared → Shared → Type 0
    Traces a b = TraceOfSeveral g h received posted remaining contents base ours a b

    -- to each side a step is one of its own, or it changes at most the rows
    abbrev IsSeen : State → State → Type 0
    IsSeen a b = Step g h received posted remaining contents base a b ⊎ ((b.history ≡ a.history) × (b.book ≡ a.book))

    step_seen : (old new : Shared) → Steps old new → (place : ℕ) → IsSeen (state_at old place) (state_at new place)
    step_seen old new (elsewhere rows serves_it) place = inr (refl, refl)
    step_seen old new (on other t step) place = elim (cases_Bool (other == place)) [
      | inl same ↦
          subst (λ (q : ℕ). IsSeen (state_at old q) (state_at (with_state old other t) q)) (eqb-true other place same)
          (inl (subst (Step g h received posted remaining contents base (state_at old other)) (sym (at_same old other t)) step))
      | inr apart ↦ subst (IsSeen (state_at old place)) (sym (at_other old other place t apart)) (inr (refl, refl))
    ]

    step_named : (a b : State) → IsSeen a b → IsNamed g h received posted remaining contents base a → IsNamed g h received posted remaining contents base b
    step_named a b (inl step) named = mine_named g h received posted remaining contents base a b step named
    step_named a b (inr stay) named = ap keys stay.1 ∙ named ∙ ap names_of (sym stay.0)

    step_keeps : (a b : State) → IsSeen a b → Keeps a.history b.history
    step_keeps a b (inl step) = mine_keeps g h received posted remaining contents base a b step
    step_keeps a b (inr stay) = λ row has. subst (λ (x : History). Has x row) (sym stay.0) has

    trace_named : (old new : Shared) → Traces old new → (place : ℕ) → IsNamed g h received posted remaining contents base (state_at old place) → IsNamed g h received posted remaining contents base (state_at new place)
    trace_named old new nothing_yet place named = named
    trace_named old new (after {mid = mid} more step) place named = step_named (state_at mid place) (state_at new place) (step_seen mid new step place) (trace_named old mid more place named)

    trace_keeps : (old new : Shared) → Traces old new → (place : ℕ) → Keeps (state_at old place).history (state_at new place).history
    trace_keeps old new nothing_yet place row has = has
    trace_keeps old new (after {mid = mid} more step) place row has = step_keeps (state_at mid place) (state_at new place) (step_seen mid new step place) row (trace_keeps old mid more place row has)

    abbrev AllOwn : Shared → Type 0
    AllOwn s = (place : ℕ) → AllOurs (ours place) (state_at s place).history

    abbrev AllGo : Shared → Shared → Type 0
    AllGo a b = (place : ℕ) → Goes (ours place) (state_at a place) (state_at b place)

    one_step : NoneShared ours → (old new : Shared) → AllOwn old → AllGo nobody old → Steps old new → AllGo old new
    one_step none_shared old new all so_far (elsewhere rows serves_it) place = next here (elsewhere_served rows (serves_it place))
    one_step none_shared old new all so_far (on other t step) place = elim (cases_Bool (other == place)) [
      | inl same ↦
          subst (λ (q : ℕ). Goes (ours q) (state_at old q) (state_at (with_state old other t) q)) (eqb-true other place same)
          (subst (Goes (ours other) (state_at old other)) (sym (at_same old other t)) (next here (mine step)))
      | inr apart ↦
          let others : IsApartFrom (ours other) (ours place) = λ name theirs_too.
          false_from_ne_true _ (λ mine_too. eqb-false other place apart (none_shared other place name theirs_too mine_too)) in
          subst (Goes (ours place) (state_at old place)) (sym (at_other old other place t apart))
          (others_step (ours other) (ours place) (state_at old other) t (state_at old place) refl others (all other) (so_far other) step)
    ]

    -- ---- every trace

    go_on : (names : Names) (a b c : State) → Goes names a b → Goes names b c → Goes names a c
    go_on names a b c first here = first
    go_on names a b c first (next {mid = mid} more step) = next (go_on names a b mid first more) step

    each_goes : NoneShared ours → (old new : Shared) → AllOwn new → AllGo nobody old → Traces old new → AllGo old new
    each_goes none_shared old new all so_far nothing_yet place = here
    each_goes none_shared old new all so_far (after {mid = mid} more step) place =
        let at_mid : AllOwn mid = λ q row has. all q row (step_keeps (state_at mid q) (state_at new q) (step_seen mid new step q) row has) in
        let to_mid = each_goes none_shared old mid at_mid so_far more in
        let from_start : AllGo nobody mid = λ q. go_on (ours q) start (state_at old q) (state_at mid q) (so_far q) (to_mid q) in
        go_on (ours place) (state_at old place) (state_at mid place) (state_at new place) (to_mid place) (one_step none_shared mid new at_mid from_start step place)

module _ {R J I O P Q : Type 0} (g : Registries R) (h : Journals J) (received : I → Option (List ℕ)) (posted : O → Option (List ℕ)) (remaining : P → Option (List ℕ)) (contents : Q → Option (List ℕ)) where
  pub traces_of_several_are_runs : Settles g → TracesOfSeveralAreRuns g h received posted remaining contents
  traces_of_several_are_runs settled base ours s t is_base none_shared known trace more place =
      let named = λ (q : ℕ). trace_named g h received posted remaining contents settled base is_base ours s t more q (trace_named g h received posted remaining contents settled base is_base ours nobody s trace q keys-empty) in
      let all : AllOwn g h received posted remaining contents settled base is_base ours t = λ q. rows_ours (ours q) (t.sides q).book (t.sides q).history (named q) (known q) in
      let early : AllOwn g h received posted remaining contents settled base is_base ours s = λ q row has. all q row (trace_keeps g h received posted remaining contents settled base is_base ours s t more q row has) in
      let first = each_goes g h received posted remaining contents settled base is_base ours none_shared nobody s early (λ q. here) trace in
      let last = each_goes g h received posted remaining contents settled base is_base ours none_shared s t all first more in
      traces_are_runs_among g h received posted remaining contents settled base (ours place) (state_at s place) (state_at t place) is_base (known place) (first place) (last place)
