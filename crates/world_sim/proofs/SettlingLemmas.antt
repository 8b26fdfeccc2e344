-- A run to convergence, step by step: the events of an exchange, the exchanges for a record, and all records in
-- turn.
use Rattle.std.proofs.Common.{arith, ◌≡◌, ◌≢◌, ℕ, zero, suc, ◌+◌, ◌-◌, ◌*◌, ◌^◌, ◌<◌, ◌≤◌, true, false, List, [], ◌∷◌, ◌++◌, Option, Some, None, map, length, drop, min, inl, refl, ap, sym, subst, ◌∙◌, length-append, drop-cons}
use Rattle.std.proofs.Math.ListN.{get_or}
use Rattle.std.proofs.lemmas.List.{drop_all, map-append}
use Rattle.std.specs.List.{AllByRecursion}
use Rattle.scim_key.specs.declared.records.Kind.TheVariants.{User}
use Rattle.scim_key.specs.declared.records.RecordName.{RecordName}
use Rattle.provider_core.specs.declared.registry.Registry.{Ghosts as Registries}
use Rattle.journal_core.specs.declared.journals.Journal.{Ghosts as Journals}
use Rattle.connector_core.specs.Asking.{asking}
use Rattle.connector_core.specs.Book.{Book}
use Rattle.connector_core.specs.declared.asking.Ask.{Ask}
use Rattle.connector_core.specs.declared.asking.Ask.TheVariants.{Nothing, Waits, Send}
use Rattle.scim_message.specs.declared.messages.Request.{Request}
use Rattle.world_model.specs.Invariant.{Names}
use Rattle.world_model.specs.Others.{OfOurs, run_among}
use Rattle.world_model.specs.Reports as model
use Rattle.world_model.specs.Room.{HasRoom, LeavesRoom, Meanwhile}
use Rattle.world_model.specs.Settled.{Exchanges, Turns, Wants, exchange}
use Rattle.world_model.specs.World.{World, Message, Asked, Answered, Event, Changes, Sends, Delivers, Cuts, Restarts_provider, Restarts_connector, Doubts, empty, happens, message_at, names, run, sends}
use Rattle.world_model.proofs.Alone.{room_without_others}
use Rattle.world_model.proofs.Calm.{calm_among}
use Rattle.world_model.proofs.Counting.{few_names}
use Rattle.world_model.proofs.Exchanging.{answer_to, sent_is}
use Rattle.world_model.proofs.OneWay.{leads_on}
use Rattle.world_model.proofs.Settling.{settles_among}
use Rattle.world_sim.specs.Events.{report_of}
use Rattle.world_sim.specs.Messages.{message_size, messages_of}
use Rattle.world_sim.specs.Running.{Fails, Happens, HasBook, IsAmong, IsExcused, IsKnown, IsOpenTo, IsReached, IsReachedAmong, IsSound, Runs, Scope, if_restart, is_open, journal_in, names_in}
use Rattle.world_sim.specs.Settling.{IsSendOrDeliver, IsSettling, MaySettle, SendsAndDelivers, Settles, SettlesRecord, Stops, TakesStep}
use Rattle.world_sim.specs.Views.{IsNoName}
use Rattle.world_sim.specs.declared.reports.Report.{Report}
use Rattle.world_sim.specs.declared.reports.WorldFault.{WorldFault}
use Rattle.world_sim.specs.declared.reports.WorldFault.TheVariants.{Memory, Store}
use Rattle.world_sim.specs.declared.sides.Side.{Side}
use Rattle.world_sim.specs.declared.sides.Side.TheVariants.{Open, Shut}
use Rattle.world_sim.specs.declared.worlds.World.{World as Running}
use Rattle.world_sim.proofs.Reaching.{among_reached, is_among, is_at, is_of_ours}
use Rattle.world_sim.proofs.Steps.{as_many}
use Rattle.world_sim.proofs.WholeRuns.{own_back, own_front, runs_none, runs_on}

-- ---- events one after the other

run-append : (w : World) (events more : List Event) → run w (events ++ more) ≡ run (run w events) more
run-append w [] more = refl
run-append w (event ∷ events) more = run-append (happens w event) events more

reports-append : (size : Message → ℕ) (w : World) (events more : List Event)
    → model.reports size w (events ++ more) ≡ model.reports size w events ++ model.reports size (run w events) more
reports-append size w [] more = refl
reports-append size w (event ∷ events) more = ap (λ rs. model.report size w event ∷ rs) (reports-append size (happens w event) events more)

pub all-append : {X : Type 0} (P : X → Type 0) (xs ys : List X) → AllByRecursion P xs → AllByRecursion P ys → AllByRecursion P (xs ++ ys)
all-append P [] ys all more = more
all-append P (x ∷ xs) ys all more = (all.0, all-append P xs ys all.1 more)

own_event : (ours : Names) (event : Event) → IsSendOrDeliver event → OfOurs ours event
own_event ours (Changes row) is = absurd is
own_event ours (Sends name) is = tt
own_event ours (Delivers number) is = tt
own_event ours (Cuts number length) is = absurd is
own_event ours Restarts_provider is = absurd is
own_event ours Restarts_connector is = absurd is
own_event ours (Doubts name) is = absurd is

pub own_events : (ours : Names) (events : List Event) → AllByRecursion IsSendOrDeliver events → AllByRecursion (OfOurs ours) events
own_events ours [] all = tt
own_events ours (event ∷ events) all = (own_event ours event all.0, own_events ours events all.1)

-- ---- what the model says about exchanges

-- if no message is sent, there was nothing to send, and nothing changed
none_sent : (w : World) (name : RecordName) (ask : Option Ask) → asking w.book name ≡ ask → length (sends w ask).messages ≡ length w.messages → (Wants w name → ⊥) × (sends w ask ≡ w)
none_sent w name None is same = (λ wants. let clash : ◌≡◌ {A = Option Ask} None (Some (Send wants.0)) = sym is ∙ wants.1 in absurd (cc), refl)
none_sent w name (Some Nothing) is same = (λ wants. let clash : Some Nothing ≡ Some (Send wants.0) = sym is ∙ wants.1 in absurd (cc), refl)
none_sent w name (Some (Waits member)) is same = (λ wants. let clash : Some (Waits member) ≡ Some (Send wants.0) = sym is ∙ wants.1 in absurd (cc), refl)
none_sent w name (Some (Send request)) is same = absurd (omega (arith, same, length-append w.messages (Asked request ∷ [])))

-- if a message is sent, there was something to send
some_sent : (w : World) (name : RecordName) (ask : Option Ask) → asking w.book name ≡ ask → length (sends w ask).messages ≢ length w.messages → Wants w name
some_sent w name None is other = absurd (other refl)
some_sent w name (Some Nothing) is other = absurd (other refl)
some_sent w name (Some (Waits member)) is other = absurd (other refl)
some_sent w name (Some (Send request)) is other = (request, is)

module _ (w : World) (name : RecordName) (request : Request) (asks : asking w.book name ≡ Some (Send request)) where
  sent_length : length (happens w (Sends name)).messages ≡ suc (length w.messages)
  sent_length =
      let long : length (w.messages ++ Asked request ∷ []) ≡ suc (length w.messages) = omega (arith, length-append w.messages (Asked request ∷ [])) in
      ap (λ (o : Option Ask). length (sends w o).messages) asks ∙ long

  replied_length : length (run w (Sends name ∷ Delivers (suc (length w.messages)) ∷ [])).messages ≡ suc (suc (length w.messages))
  replied_length =
      ap (λ (u : World). length u.messages) (sent_is w name request asks)
      ∙ omega (arith, length-append (w.messages ++ Asked request ∷ []) (Answered request (answer_to w request) ∷ []), length-append w.messages (Asked request ∷ []))

more_exchanges : (count : ℕ) (w : World) (name : RecordName) (u : World) → Exchanges w name count u → Wants u name → Exchanges w name (suc count) (exchange u name)
more_exchanges zero w name u made wants = (subst (λ (x : World). Wants x name) made wants, ap (λ (x : World). exchange x name) made)
more_exchanges (suc count) w name u made wants = (made.0, more_exchanges count (exchange w name) name u made.1 wants)

-- if there is nothing to send, the exchanges are at their end
at_end : (left : ℕ) (u : World) (name : RecordName) (v : World) → (Wants u name → ⊥) → Exchanges u name left v → (left ≡ 0) × (v ≡ u)
at_end zero u name v none made = (refl, made)
at_end (suc left) u name v none made = absurd (none made.0)

ended : (left : ℕ) (u : World) (name : RecordName) (v : World) → left ≡ 0 → Exchanges u name left v → v ≡ u
ended zero u name v none made = made
ended (suc left) u name v none made = absurd (omega (arith, none))

most_turns : (all : List RecordName) (w : World) (count : ℕ) (v : World) → Turns w all count v → count ≤ 3 * length all
most_turns [] w count v turns = omega (arith, turns.1)
most_turns (name ∷ all) w count v turns =
    let (here, there, u, within, exchanges, rests, more, sum) = turns in
    omega (arith, within, sum, most_turns all u there v more)

-- our events alone leave room
room_alone : (w : World) → IsReached w → HasRoom w
room_alone w reached = subst HasRoom reached.is (room_without_others.room reached.events reached.lawful)

-- others who do nothing
abbrev nobody : Meanwhile
nobody w = []

nobody_leaves : (ours : Names) → LeavesRoom ours nobody
nobody_leaves ours = record { alone = λ w. tt; room = λ w room. room }

-- from the empty start
acts_lead : {scope : Scope} (w : World) → scope.start ≡ empty → (reached : IsReachedAmong scope w) → run_among empty reached.acts ≡ w
acts_lead w none reached = ap (λ start. run_among start reached.acts) (sym none) ∙ reached.is

may_settle : {scope : Scope} (w : World) → scope.start ≡ empty → HasRoom w → IsReachedAmong scope w → MaySettle w
may_settle {scope} w none room reached =
    let is = acts_lead w none reached in
    let (count, v, turns, settled) = settles_among scope.ours reached.acts nobody reached.apart reached.lawful (subst HasRoom (sym is) room) (nobody_leaves scope.ours) in
    subst MaySettle is (count, v, record { turns = (room_without_others.turns (run_among empty reached.acts) (names (run_among empty reached.acts)) count v).1 turns; settled = settled })

small_count : {scope : Scope} (w : World) → scope.start ≡ empty → HasRoom w → IsReachedAmong scope w → (count : ℕ) (v : World) → Turns w (names w) count v → count < 2 ^ 32
small_count {scope} w none room reached count v turns =
    let is = acts_lead w none reached in
    let calm = calm_among scope.ours reached.acts reached.apart reached.lawful (subst HasRoom (sym is) room) in
    let few = few_names (run_among empty reached.acts).history calm.quiet.counted in
    omega (arith, most_turns (names w) w count v turns, few, ap (λ (v : World). length (names v)) is)

-- ---- what runs

module _ {R J : Type 0} (g : Registries R) (h : Journals J) where
  pub runs_both : (old mid new : Running R J) (events more : List Event) (told more_told : List Report) → Runs g h old mid events told → Runs g h mid new more more_told
      → Runs g h old new (events ++ more) (told ++ more_told)
  runs_both old mid new events more told more_told one two = record {
    was = λ sound. one.was (two.was sound);
    base = two.base ∙ one.base;
    stays_open = λ sound faithful. two.stays_open sound (one.stays_open (two.was sound) faithful);
    journal_open = λ sound faithful. two.journal_open sound (one.journal_open (two.was sound) faithful);
    is = λ sound w is own. is_at g h new (run (run w events) more) (run w (events ++ more)) (run-append w events more)
        (two.is sound (run w events) (one.is (two.was sound) w is (own_front g h old w is events more own)) (own_back g h old w is events more own));
    told_so = λ sound w is own. map-append report_of told more_told
        ∙ ap (λ rs. rs ++ map report_of more_told) (one.told_so (two.was sound) w is (own_front g h old w is events more own))
        ∙ ap (λ rs. model.reports (message_size old.service) w events ++ rs)
        (two.told_so sound (run w events) (one.is (two.was sound) w is (own_front g h old w is events more own)) (own_back g h old w is events more own) ∙ ap (λ b. model.reports (message_size b) (run w events) more) one.base)
        ∙ sym (reports-append (message_size old.service) w events more);
  }

  abbrev pub none_done : (r : Running R J) → SendsAndDelivers g h r r
  none_done r = record { events = []; only = tt; told = []; runs = runs_none g h r }

  abbrev pub one_done : (old new : Running R J) (event : Event) → IsSendOrDeliver event → (told : Report) → Happens g h old new event told → SendsAndDelivers g h old new
  one_done old new event is told did = record { events = event ∷ []; only = (is, tt); told = told ∷ []; runs = runs_on g h old old new [] event [] told (runs_none g h old) did }

  abbrev pub both_done : (old mid new : Running R J) → SendsAndDelivers g h old mid → SendsAndDelivers g h mid new → SendsAndDelivers g h old new
  both_done old mid new one two = record {
    events = one.events ++ two.events;
    only = all-append IsSendOrDeliver one.events two.events one.only two.only;
    told = one.told ++ two.told;
    runs = runs_both old mid new one.events two.events one.told two.told one.runs two.runs;
  }

  -- the world after what was done runs
  pub done_is : {scope : Scope} {old new : Running R J} (done : SendsAndDelivers g h old new) → IsSound g h new → (w : World) → IsAmong g h scope old w → IsAmong g h scope new (run w done.events)
  done_is {scope} done sound w is = done.runs.is sound w is (own_events scope.ours done.events done.only)

  -- ---- faults

  open_to : (r : Running R J) (message : Option Message) → g.is_faithful r.provider → h.is_faithful (journal_in r.connector) → IsOpenTo g h r message
  open_to r None registry journal = tt
  open_to r (Some (Asked request)) registry journal = registry
  open_to r (Some (Answered request answer)) registry journal = journal

  is_known : (old new : Running R J) (event : Event) → IsSendOrDeliver event → g.is_faithful new.provider → h.is_faithful (journal_in new.connector) → IsKnown g h old new event
  is_known old new (Changes row) is registry journal = absurd is
  is_known old new (Sends name) is registry journal = tt
  is_known old new (Delivers number) is registry journal = open_to new (message_at (messages_of old.sent.items) number) registry journal
  is_known old new (Cuts number length) is registry journal = absurd is
  is_known old new Restarts_provider is registry journal = absurd is
  is_known old new Restarts_connector is registry journal = absurd is
  is_known old new (Doubts name) is registry journal = absurd is

  no_restart : (w : World) (event : Event) → IsSendOrDeliver event → if_restart w event ≡ w
  no_restart w (Changes row) is = refl
  no_restart w (Sends name) is = refl
  no_restart w (Delivers number) is = refl
  no_restart w (Cuts number length) is = refl
  no_restart w Restarts_provider is = refl
  no_restart w Restarts_connector is = absurd is
  no_restart w (Doubts name) is = refl

  pub stops : (old between new : Running R J) → SendsAndDelivers g h old between → (next : Event) → IsSendOrDeliver next → (fault : WorldFault) → Fails g h between new next fault
      → Stops g h old new fault
  stops old between new done next is_next fault fails = record {
    between = between;
    done = done;
    next = next;
    is_next = is_next;
    fails = fails;
    again = λ sound faithful journal w is.
        let alone = is_of_ours g h new (run w done.events) (still sound faithful journal w (is_among g h old w is)) in
        (alone, may_settle (run w done.events) refl (room_alone (run w done.events) alone.reached) (among_reached (run w done.events) alone.reached));
    among = λ sound faithful journal w is.
        let there = still sound faithful journal w is in
        (there, λ none room. may_settle (run w done.events) none room there.reached);
  }
    where
      still : IsSound g h new → g.is_faithful new.provider → h.is_faithful (journal_in new.connector) → {scope : Scope} (w : World) → IsAmong g h scope old w → IsAmong g h scope new (run w done.events)
      still sound faithful journal {scope} w is =
          let there = done_is done (fails.was sound) w is in
          let failed = fails.is sound (is_known between new next is_next faithful journal) (run w done.events) there in
          subst (λ v. IsAmong g h scope new v) (no_restart (run w done.events) next is_next) failed

  pub stops_after : (old mid new : Running R J) → SendsAndDelivers g h old mid → (fault : WorldFault) → Stops g h mid new fault → Stops g h old new fault
  stops_after old mid new done fault s = stops old s.between new (both_done old mid s.between done s.done) s.next s.is_next fault s.fails

  -- names that can't be listed, and a request that can't be formed
  is_excused : (r : Running R J) (name : RecordName) (fault : WorldFault) → IsNoName r.connector fault → IsExcused g h r r (Sends name) fault
  is_excused r name Memory why = (refl, refl)
  is_excused r name Store why = inl why

  pub stops_unnamed : (r : Running R J) (fault : WorldFault) → IsNoName r.connector fault → Stops g h r r fault
  stops_unnamed r fault why =
      let name : RecordName = record { kind = User; key = [] } in
      stops r r r (none_done r) (Sends name) tt fault
      (record {
        was = λ sound. sound;
        base = refl;
        sent = refl;
        is = λ sound known w is. is;
        leaves = λ sound w is. record { rows = λ found holds. inl (is.mirrors.found found holds); entries = λ found holds. inl (is.mirrors.kept found holds) };
        excused = is_excused r name fault why;
      })

  -- ---- one exchange

  pub takes_none : (old new : Running R J) (name : RecordName) (told : Report) → Happens g h old new (Sends name) told → length new.sent.items ≡ length old.sent.items
      → TakesStep g h old new name false
  takes_none old new name told did same = record {
    done = one_done old new (Sends name) tt told did;
    step = λ sound w is.
        let there = did.is sound w is tt in
        none_sent w name (asking w.book name) refl (sym (as_many g h new (happens w (Sends name)) there) ∙ same ∙ as_many g h old w is);
  }

  pub takes_one : (old one two new : Running R J) (name : RecordName) (request reply : ℕ) (sent asked answered : Report) → Happens g h old one (Sends name) sent
      → Happens g h one two (Delivers request) asked → Happens g h two new (Delivers reply) answered
      → request ≡ length one.sent.items → reply ≡ length two.sent.items → length one.sent.items ≢ length old.sent.items → TakesStep g h old new name true
  takes_one old one two new name request reply sent asked answered sends_it takes_it learns_it is_request is_reply other = record {
    done = both_done old one new (one_done old one (Sends name) tt sent sends_it)
        (both_done one two new (one_done one two (Delivers request) tt asked takes_it) (one_done two new (Delivers reply) tt answered learns_it));
    step = λ sound w is.
        let at_one = sends_it.is (takes_it.was (learns_it.was sound)) w is tt in
        let at_two = takes_it.is (learns_it.was sound) (happens w (Sends name)) at_one tt in
        let many = as_many g h one (happens w (Sends name)) at_one in
        let wants = some_sent w name (asking w.book name) refl (λ same. other (many ∙ same ∙ sym (as_many g h old w is))) in
        let first : request ≡ suc (length w.messages) = is_request ∙ many ∙ sent_length w name wants.0 wants.1 in
        let second : reply ≡ suc (suc (length w.messages)) =
        is_reply ∙ as_many g h two (happens (happens w (Sends name)) (Delivers request)) at_two
        ∙ ap (λ n. length (happens (happens w (Sends name)) (Delivers n)).messages) first
        ∙ replied_length w name wants.0 wants.1 in
        (wants, ap (λ n. run w (Sends name ∷ Delivers n ∷ Delivers reply ∷ [])) first ∙ ap (λ n. run w (Sends name ∷ Delivers (suc (length w.messages)) ∷ Delivers n ∷ [])) second);
  }

  -- ---- one record

  -- the exchanges for the record so far
  pub record IsSoFar (old new : Running R J) (name : RecordName) (count : ℕ) : Type 0 where
    pub done : SendsAndDelivers g h old new
    pub made : IsSound g h new → {scope : Scope} (w : World) → IsAmong g h scope old w → Exchanges w name count (run w done.events)

  pub none_so_far : (r : Running R J) (name : RecordName) → IsSoFar r r name 0
  none_so_far r name = record { done = none_done r; made = λ sound w is. refl }

  pub one_more : (old mid new : Running R J) (name : RecordName) (count : ℕ) → IsSoFar old mid name count → TakesStep g h mid new name true → IsSoFar old new name (count + 1)
  one_more old mid new name count so step = record {
    done = both_done old mid new so.done step.done;
    made = λ sound w is.
        let was = step.done.runs.was sound in
        let there = done_is so.done was w is in
        let next = step.step sound (run w so.done.events) there in
        let more : Exchanges w name (suc count) (exchange (run w so.done.events) name) = more_exchanges count w name (run w so.done.events) (so.made was w is) next.0 in
        let same : run w (so.done.events ++ step.done.events) ≡ exchange (run w so.done.events) name = run-append w so.done.events step.done.events ∙ next.1 in
        let plus : count + 1 ≡ suc count = omega arith in
        subst (λ n. Exchanges w name n (run w (so.done.events ++ step.done.events))) (sym plus) (subst (λ (v : World). Exchanges w name (suc count) v) (sym same) more);
  }

  pub rests_so_far : (old mid new : Running R J) (name : RecordName) (count : ℕ) → count ≤ 3 → IsSoFar old mid name count → TakesStep g h mid new name false → SettlesRecord g h old new name count
  rests_so_far old mid new name count most so step = record {
    done = both_done old mid new so.done step.done;
    most = most;
    made = λ sound w is n v few all rests.
        let was = step.done.runs.was sound in
        let there = done_is so.done was w is in
        let next = step.step sound (run w so.done.events) there in
        let (left, sum, more) = leads_on w name count n (run w so.done.events) v (so.made was w is) all rests in
        let end = at_end left (run w so.done.events) name v next.0 more in
        (omega (arith, sum, end.0), run-append w so.done.events step.done.events ∙ next.1 ∙ sym end.1);
  }

  pub all_so_far : (old new : Running R J) (name : RecordName) (count : ℕ) → count ≡ 3 → IsSoFar old new name count → SettlesRecord g h old new name count
  all_so_far old new name count all so = record {
    done = so.done;
    most = omega (arith, all);
    made = λ sound w is n v few whole rests.
        let (left, sum, more) = leads_on w name count n (run w so.done.events) v (so.made sound w is) whole rests in
        let none : left ≡ 0 = omega (arith, sum, few, all) in
        (omega (arith, sum, none), sym (ended left (run w so.done.events) name v none more));
  }

  -- ---- all records

  -- the records before this place were settled by the exchanges so far: if exchanges for all records lead to v,
  -- exchanges for the rest lead there from here
  pub record AreSoFar (old new : Running R J) (all : List RecordName) (place exchanges : ℕ) : Type 0 where
    pub done : SendsAndDelivers g h old new
    pub most : exchanges ≤ 3 * place
    pub lead : IsSound g h new → {scope : Scope} (w : World) → IsAmong g h scope old w → (count : ℕ) (v : World) → count < 2 ^ 32 → Turns w all count v
        → (left : ℕ) × Turns (run w done.events) (drop place all) left v × (exchanges + left ≡ count)

  pub none_settled : (r : Running R J) (all : List RecordName) → AreSoFar r r all 0 0
  none_settled r all = record { done = none_done r; most = omega arith; lead = λ sound w is count v small turns. (count, turns, omega arith) }

  pub one_settled : (old mid new : Running R J) (all : List RecordName) (place exchanges : ℕ) (name : RecordName) (here sum : ℕ) → place < length all → name ≡ get_or all place name
      → sum ≡ min (exchanges + here) (2 ^ 32 - 1) → AreSoFar old mid all place exchanges → SettlesRecord g h mid new name here → AreSoFar old new all (place + 1) sum
  one_settled old mid new all place exchanges name here sum less at total so s = record {
    done = both_done old mid new so.done s.done;
    most = omega (arith, total, so.most, s.most);
    lead = λ sound w is count v small turns.
        let was = s.done.runs.was sound in
        let there = done_is so.done was w is in
        let u = run w so.done.events in
        let (left, rest, counted) = so.lead was w is count v small turns in
        let next : place + 1 ≡ suc place = omega arith in
        let dropped : drop place all ≡ name ∷ drop (place + 1) all = drop-cons all place name less ∙ ap (λ (n : RecordName). n ∷ drop (suc place) all) (sym at) ∙ ap (λ n. name ∷ drop n all) (sym next) in
        let (made, others, x, within, exchanges_here, rests, more, both) = subst (λ (ns : List RecordName). Turns u ns left v) dropped rest in
        let (same, world) = s.made sound u there made x within exchanges_here rests in
        let is_there : run w (so.done.events ++ s.done.events) ≡ x = run-append w so.done.events s.done.events ∙ world in
        (others, subst (λ (y : World). Turns y (drop (place + 1) all) others v) (sym is_there) more, omega (arith, total, counted, both, same, small));
  }

  open_names : (side : Side J) (book : Book) (all : List RecordName) → is_open side ≡ true → HasBook side book all → names_in h side ≡ all
  open_names (Open connector) book all is has = has.1
  open_names (Shut journal) book all is has = absurd (cc)

  -- if exchanges lead to convergence, these were made
  reached_by : {scope : Scope} (old new : Running R J) (all : List RecordName) (place exchanges : ℕ) → place ≡ length all → all ≡ names_in h old.connector → is_open old.connector ≡ true → (so : AreSoFar old new all place exchanges)
      → IsSound g h new → (w : World) → IsAmong g h scope old w → (count : ℕ) (v : World) → count < 2 ^ 32 → Turns w (names w) count v → (exchanges ≡ count) × (run w so.done.events ≡ v)
  reached_by old new all place exchanges past named opened so sound w is count v small turns =
      let same : all ≡ names w = named ∙ open_names old.connector w.book (names w) opened is.mirrors.book in
      let (left, rest, counted) = so.lead sound w is count v small (subst (λ (ns : List RecordName). Turns w ns count v) (sym same) turns) in
      let end : (v ≡ run w so.done.events) × (left ≡ 0) = subst (λ (ns : List RecordName). Turns (run w so.done.events) ns left v) (drop_all place all (omega (arith, past))) rest in
      (omega (arith, counted, end.1), sym end.0)

  settling : {scope : Scope} (old new : Running R J) (all : List RecordName) (place exchanges : ℕ) → place ≡ length all → all ≡ names_in h old.connector → is_open old.connector ≡ true → (so : AreSoFar old new all place exchanges)
      → IsSound g h new → (w : World) → scope.start ≡ empty → HasRoom w → IsAmong g h scope old w → IsSettling w exchanges (run w so.done.events)
  settling old new all place exchanges past named opened so sound w none room is =
      let (count, v, s) = may_settle w none room is.reached in
      let made = reached_by old new all place exchanges past named opened so sound w is count v (small_count w none room is.reached count v s.turns) s.turns in
      subst (λ (u : World). IsSettling w exchanges u) (sym made.1) (subst (λ n. IsSettling w n v) (sym made.0) s)

  pub all_settled : (old new : Running R J) (all : List RecordName) (place exchanges : ℕ) → place ≡ length all → all ≡ names_in h old.connector → is_open old.connector ≡ true → AreSoFar old new all place exchanges
      → Settles g h old new (record { exchanges = exchanges })
  all_settled old new all place exchanges past named opened so = record {
    done = so.done;
    most = omega (arith, so.most, past, ap (λ (ns : List RecordName). length ns) named);
    settling = λ sound w is. settling old new all place exchanges past named opened so sound w refl (room_alone w is.reached) (is_among g h old w is);
    among = λ sound w is none room. settling old new all place exchanges past named opened so sound w none room is;
    found = λ sound w is count v small s. reached_by old new all place exchanges past named opened so sound w is count v small s.turns;
  }
