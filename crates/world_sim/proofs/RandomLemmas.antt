-- The events that were drawn so far.
use Rattle.std.proofs.Common.{arith, ◌≡◌, ℕ, suc, ◌+◌, ◌-◌, ◌/◌, ◌<◌, List, Option, [], ◌∷◌, ◌++◌, Some, map, ap, sym, ◌∙◌, append-nil, append_assoc}
use Rattle.std.proofs.lemmas.List.{map_push}
use Rattle.std.specs.Option.{option_map}
use Rattle.rand_pcg.specs.Lcg.{Lcg}
use Rattle.rand_pcg.specs.Pcg.{pcg32}
use Rattle.source_csv.specs.Fields.{Record}
use Rattle.world_sim.specs.Random.{all_after, counters_after, drawn, event_drawn, held_drawn, holds_drawn, place_drawn, seed_draws, seed_draws_acts, seed_draws_turns, seed_holds, turn_drawn, turns_drawn, word_drawn}
use Rattle.world_sim.specs.Schedules.{ReadsFiles}
use Rattle.world_sim.specs.declared.acting.Act.{Act}
use Rattle.world_sim.specs.declared.acting.Act.TheVariants as acts
use Rattle.world_sim.specs.declared.events.Event.{Event}
use Rattle.world_sim.specs.declared.several.Turn.{Turn}

-- the events so far, and what the generator still draws, are all events of the seed
abbrev pub AreDrawnSoFar : (generator : Lcg) → (counters : List ℕ) → (seed count done : ℕ) → List Event → Type 0
AreDrawnSoFar generator counters seed count done events = (records_in : List ℕ → List Record) → ReadsFiles records_in
    → map Some events ++ drawn records_in generator counters (count - done) ≡ seed_draws records_in seed count

pub one_drawn : (old new : Lcg) (counters later : List ℕ) (seed count done : ℕ) (events : List Event) (event : Event) → done < count
    → ((records_in : List ℕ → List Record) → ReadsFiles records_in → event_drawn records_in [] counters (pcg32 old).0 ≡ Some event)
    → new ≡ (pcg32 old).1 → later ≡ counters_after counters (pcg32 old).0
    → AreDrawnSoFar old counters seed count done events → AreDrawnSoFar new later seed count (done + 1) (events ++ event ∷ [])
one_drawn old new counters later seed count done events event less is next counted far records_in reads =
    let rest : count - done ≡ suc (count - (done + 1)) = omega (arith, less) in
    let tail = drawn records_in (pcg32 old).1 (counters_after counters (pcg32 old).0) (count - (done + 1)) in
    ap (λ l. l ++ drawn records_in new later (count - (done + 1))) (map_push Some events event)
    ∙ append_assoc (map Some events) (Some event ∷ []) (drawn records_in new later (count - (done + 1)))
    ∙ ap (λ l. map Some events ++ Some event ∷ l) (ap (λ g. drawn records_in g later (count - (done + 1))) next ∙ ap (λ cs. drawn records_in (pcg32 old).1 cs (count - (done + 1))) counted)
    ∙ ap (λ e. map Some events ++ e ∷ tail) (sym (is records_in reads))
    ∙ ap (λ n. map Some events ++ drawn records_in old counters n) (sym rest)
    ∙ far records_in reads

pub all_drawn : (generator : Lcg) (counters : List ℕ) (seed count done : ℕ) (events : List Event) → done ≡ count
    → AreDrawnSoFar generator counters seed count done events → (records_in : List ℕ → List Record) → ReadsFiles records_in → map Some events ≡ seed_draws records_in seed count
all_drawn generator counters seed count done events whole far records_in reads =
    let none : count - done ≡ 0 = omega (arith, whole) in
    sym (append-nil (map Some events)) ∙ ap (λ n. map Some events ++ drawn records_in generator counters n) (sym none) ∙ far records_in reads

-- ---- a random start, and then events

abbrev pub AreHeldSoFar : (generator : Lcg) → (seed count done : ℕ) → List Act → Type 0
AreHeldSoFar generator seed count done held = (records_in : List ℕ → List Record) → ReadsFiles records_in
    → map Some held ++ holds_drawn records_in generator (count - done) ≡ seed_holds records_in seed

pub one_held : (old new : Lcg) (seed count done : ℕ) (held : List Act) (act : Act) → done < count
    → ((records_in : List ℕ → List Record) → ReadsFiles records_in → held_drawn records_in ((pcg32 old).0 / 65_536) ≡ Some act) → new ≡ (pcg32 old).1
    → AreHeldSoFar old seed count done held → AreHeldSoFar new seed count (done + 1) (held ++ act ∷ [])
one_held old new seed count done held act less is next far records_in reads =
    let rest : count - done ≡ suc (count - (done + 1)) = omega (arith, less) in
    let tail = holds_drawn records_in (pcg32 old).1 (count - (done + 1)) in
    ap (λ l. l ++ holds_drawn records_in new (count - (done + 1))) (map_push Some held act)
    ∙ append_assoc (map Some held) (Some act ∷ []) (holds_drawn records_in new (count - (done + 1)))
    ∙ ap (λ l. map Some held ++ Some act ∷ l) (ap (λ g. holds_drawn records_in g (count - (done + 1))) next)
    ∙ ap (λ a. map Some held ++ a ∷ tail) (sym (is records_in reads))
    ∙ ap (λ n. map Some held ++ holds_drawn records_in old n) (sym rest)
    ∙ far records_in reads

pub all_held : (generator : Lcg) (seed count done : ℕ) (held : List Act) → done ≡ count → AreHeldSoFar generator seed count done held
    → (records_in : List ℕ → List Record) → ReadsFiles records_in → map Some held ≡ seed_holds records_in seed
all_held generator seed count done held whole far records_in reads =
    let none : count - done ≡ 0 = omega (arith, whole) in
    sym (append-nil (map Some held)) ∙ ap (λ n. map Some held ++ holds_drawn records_in generator n) (sym none) ∙ far records_in reads

-- what is held, the events so far, and what the generator still draws
abbrev pub AreActsSoFar : (generator : Lcg) → (counters : List ℕ) → (seed count done : ℕ) → List Act → Type 0
AreActsSoFar generator counters seed count done all = (records_in : List ℕ → List Record) → ReadsFiles records_in
    → map Some all ++ map (option_map acts.Ours) (drawn records_in generator counters (count - done)) ≡ seed_draws_acts records_in seed count

pub one_act_drawn : (old new : Lcg) (counters later : List ℕ) (seed count done : ℕ) (all : List Act) (event : Event) → done < count
    → ((records_in : List ℕ → List Record) → ReadsFiles records_in → event_drawn records_in [] counters (pcg32 old).0 ≡ Some event)
    → new ≡ (pcg32 old).1 → later ≡ counters_after counters (pcg32 old).0
    → AreActsSoFar old counters seed count done all → AreActsSoFar new later seed count (done + 1) (all ++ acts.Ours event ∷ [])
one_act_drawn old new counters later seed count done all event less is next counted far records_in reads =
    let rest : count - done ≡ suc (count - (done + 1)) = omega (arith, less) in
    let more : Lcg → List ℕ → List (Option Act) = λ g cs. map (option_map acts.Ours) (drawn records_in g cs (count - (done + 1))) in
    ap (λ l. l ++ more new later) (map_push Some all (acts.Ours event))
    ∙ append_assoc (map Some all) (Some (acts.Ours event) ∷ []) (more new later)
    ∙ ap (λ l. map Some all ++ Some (acts.Ours event) ∷ l) (ap (λ g. more g later) next ∙ ap (λ cs. more (pcg32 old).1 cs) counted)
    ∙ ap (λ e. map Some all ++ option_map acts.Ours e ∷ more (pcg32 old).1 (counters_after counters (pcg32 old).0)) (sym (is records_in reads))
    ∙ ap (λ n. map Some all ++ map (option_map acts.Ours) (drawn records_in old counters n)) (sym rest)
    ∙ far records_in reads

pub all_acts_drawn : (generator : Lcg) (counters : List ℕ) (seed count done : ℕ) (all : List Act) → done ≡ count → AreActsSoFar generator counters seed count done all
    → (records_in : List ℕ → List Record) → ReadsFiles records_in → map Some all ≡ seed_draws_acts records_in seed count
all_acts_drawn generator counters seed count done all whole far records_in reads =
    let none : count - done ≡ 0 = omega (arith, whole) in
    sym (append-nil (map Some all)) ∙ ap (λ n. map Some all ++ map (option_map acts.Ours) (drawn records_in generator counters n)) (sym none) ∙ far records_in reads

-- ---- turns of several connectors

-- the turns so far, and what the generator still draws, are all turns of the seed
abbrev pub AreTurnsSoFar : (generator : Lcg) → (all : List (List ℕ)) → (seed connectors count done : ℕ) → List Turn → Type 0
AreTurnsSoFar generator all seed connectors count done turns = (records_in : List ℕ → List Record) → ReadsFiles records_in
    → map Some turns ++ turns_drawn records_in generator all connectors (count - done) ≡ seed_draws_turns records_in seed connectors count

pub one_turn_drawn : (old new : Lcg) (all later : List (List ℕ)) (seed connectors count done : ℕ) (turns : List Turn) (turn : Turn) → done < count
    → ((records_in : List ℕ → List Record) → ReadsFiles records_in → turn_drawn records_in all (place_drawn connectors old) (word_drawn old).0 ≡ Some turn)
    → new ≡ (word_drawn old).1 → later ≡ all_after all (place_drawn connectors old) (word_drawn old).0
    → AreTurnsSoFar old all seed connectors count done turns → AreTurnsSoFar new later seed connectors count (done + 1) (turns ++ turn ∷ [])
one_turn_drawn old new all later seed connectors count done turns turn less is next counted far records_in reads =
    let rest : count - done ≡ suc (count - (done + 1)) = omega (arith, less) in
    let after = all_after all (place_drawn connectors old) (word_drawn old).0 in
    let tail = turns_drawn records_in (word_drawn old).1 after connectors (count - (done + 1)) in
    ap (λ l. l ++ turns_drawn records_in new later connectors (count - (done + 1))) (map_push Some turns turn)
    ∙ append_assoc (map Some turns) (Some turn ∷ []) (turns_drawn records_in new later connectors (count - (done + 1)))
    ∙ ap (λ l. map Some turns ++ Some turn ∷ l) (ap (λ g. turns_drawn records_in g later connectors (count - (done + 1))) next ∙ ap (λ cs. turns_drawn records_in (word_drawn old).1 cs connectors (count - (done + 1))) counted)
    ∙ ap (λ e. map Some turns ++ e ∷ tail) (sym (is records_in reads))
    ∙ ap (λ n. map Some turns ++ turns_drawn records_in old all connectors n) (sym rest)
    ∙ far records_in reads

pub all_turns_drawn : (generator : Lcg) (all : List (List ℕ)) (seed connectors count done : ℕ) (turns : List Turn) → done ≡ count
    → AreTurnsSoFar generator all seed connectors count done turns → (records_in : List ℕ → List Record) → ReadsFiles records_in → map Some turns ≡ seed_draws_turns records_in seed connectors count
all_turns_drawn generator all seed connectors count done turns whole far records_in reads =
    let none : count - done ≡ 0 = omega (arith, whole) in
    sym (append-nil (map Some turns)) ∙ ap (λ n. map Some turns ++ turns_drawn records_in generator all connectors n) (sym none) ∙ far records_in reads
