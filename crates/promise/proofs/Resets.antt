-- Traces through resets are stories of the model; what `reset` does is a step of one.
use Rattle.std.proofs.Common.{◌≡◌, ℕ, Bool, true, false, ◌||◌, ◌&&◌, cond, T, List, [], ◌∷◌, ◌++◌, Option, Some, None, map, refl, ap, sym, subst, ◌∙◌, inl, inr, append_assoc}
use Rattle.std.proofs.lemmas.List.{append-nil}
use Rattle.std.specs.FinMap.{entries, entries_sorted, entries-from_sorted, from_entries, from_sorted, get, get-from_entries, get-from_sorted, get-insert, is_sorted, keys, same_map}
use Rattle.std.specs.FinMap.Entries.{below_all}
use Rattle.std.specs.List.{AllByRecursion}
use Rattle.std.specs.Option.{option_map}
use Rattle.std.specs.Ordering.{is_eq, is_lt}
use Rattle.scim_key.proofs.RecordLaws.{same as same_names}
use Rattle.scim_key.specs.Bases.{IsBase}
use Rattle.scim_key.specs.RecordOrder.{names_total, tied}
use Rattle.scim_key.specs.Records.{name_cmp}
use Rattle.scim_key.specs.declared.records.RecordName.{RecordName}
use Rattle.provider_core.specs.declared.registry.Registry.{Ghosts as Registries}
use Rattle.source_csv.specs.Records.{IsRow}
use Rattle.source_csv.specs.declared.rows.Row.{Row}
use Rattle.journal_core.proofs.Trees.{names_same}
use Rattle.journal_core.specs.Entries.{EntryMap}
use Rattle.journal_core.specs.Forgetting.{forgotten, unlearnt}
use Rattle.journal_core.specs.declared.entries.Entry.{Entry}
use Rattle.journal_core.specs.declared.journals.Journal.{Ghosts as Journals}
use Rattle.journal_store.proofs.Forgetting.{forgets_only}
use Rattle.journal_store.specs.Scopes.{after_reset, first_absent, forgotten_of, unlearnt_at, unless_absent}
use Rattle.journal_store.specs.declared.scopes.Scope.{Scope}
use Rattle.journal_store.specs.declared.scopes.Scope.TheVariants.{All, These}
use Rattle.connector_core.proofs.Keeping.{names-put}
use Rattle.connector_core.proofs.Lessons.{entry-again}
use Rattle.connector_core.specs.Book.{Book}
use Rattle.connector_core.specs.Changing.{names_of, taking_all}
use Rattle.connector_core.specs.History.{History}
use Rattle.connector_core.specs.Maps.{BookMap, book_of}
use Rattle.connector_core.specs.State.{AreOf, IsOpened, entry_of, opened}
use Rattle.connector_core.specs.declared.knowledge.Known.{Known}
use Rattle.world_model.specs.World.{World, Asked, Answered, empty}
use Rattle.world_model.specs.Invariant.{AllOurs, Names, all_names}
use Rattle.world_model.specs.Resetting.{Does, Forgets, Happening, IsLawfulHappening, StayApart, StaysApart, opened_after, reset_book, run_through, undergoes}
use Rattle.world_model.proofs.Durable.{start_durable}
use Rattle.world_model.proofs.InOrder.{empty_is_start}
use Rattle.world_model.proofs.Resetting.{through_durable}
use Rattle.world_model.proofs.Starting.{headline_through_resets, through-append, without_resets}
use Rattle.world_sim.proofs.Fitting.{messages_are_read_through}
use Rattle.promise.specs.Calls.{history_all}
use Rattle.promise.specs.Among.{StepAmong.mine, StepAmong.theirs}
use Rattle.promise.specs.AmongTyped as typed
use Rattle.promise.specs.AmongTyped.{HasOurs}
use Rattle.promise.specs.Resets.{ClosingIsAStep, IsReset, ReopeningAfterAll, ResetsAreSteps, StepThrough, StepThrough.does, StepThrough.resets, TraceThrough, TraceThrough.here, TraceThrough.next, TracesThroughResets, reset_entry}
use Rattle.promise.specs.Traces.{State, Step.reopens, Trace, Trace.here as alone_here, Trace.next as alone_next, start}
use Rattle.promise.specs.Typed as own
use Rattle.promise.proofs.AmongTraces.{GoesAmong, mine_keeps, mine_named, promised_among, theirs_step}
use Rattle.promise.proofs.AmongTyped.{Keeps, ran, rows_ours}
use Rattle.promise.proofs.Calls.{entries_of, offers_are_steps}
use Rattle.promise.proofs.Lists.{all_mapped}
use Rattle.world_sim.proofs.SettlingLemmas.{all-append}
use Rattle.promise.proofs.Traces.{IsRead, Settles, Spoken, goes, mirrored, spoken_start}
use Rattle.promise.proofs.Typed.{at_start, keys-empty, rebooked}

-- ---- what `reset` makes of entries

abbrev Named : Type 0
Named = RecordName × Entry

abbrev at_name : Named → Named
at_name e = (e.0, unlearnt e.1)

below_still : (q : RecordName) (es : List Named) → below_all name_cmp q (map at_name es) ≡ below_all name_cmp q es
below_still q [] = refl
below_still q (e ∷ es) = ap (λ b. is_lt (name_cmp q e.0) && b) (below_still q es)

sorted_still : (es : List Named) → is_sorted name_cmp (map at_name es) ≡ is_sorted name_cmp es
sorted_still [] = refl
sorted_still (e ∷ es) = λ i. below_still e.0 es i && sorted_still es i

entries_forgotten : (m : EntryMap) → entries (forgotten m) ≡ map at_name (entries m)
entries_forgotten m =
    let es = map at_name (entries m) in
    let sorted : T (is_sorted name_cmp es) = subst T (sym (sorted_still (entries m))) (entries_sorted m) in
    let same : from_entries es ≡ from_sorted {R = name_cmp} es = same_map names_total names_same (from_entries es) (from_sorted es) (λ q. get-from_entries names_total es q ∙ sym (get-from_sorted name_cmp es q sorted)) in
    ap entries same ∙ entries-from_sorted name_cmp es sorted

names_still : (es : List Named) → map (λ (e : Named). e.0) (map at_name es) ≡ map (λ (e : Named). e.0) es
names_still [] = refl
names_still (e ∷ es) = ap (λ (names : List RecordName). e.0 ∷ names) (names_still es)

unlearnt_is : (o : Option Entry) → option_map unlearnt o ≡ option_map (reset_entry true) o
unlearnt_is None = refl
unlearnt_is (Some e) = refl

all_reset : (m : EntryMap) → IsReset all_names m (forgotten m)
all_reset m = record {
  entries = λ q. forgets_only.each m q ∙ unlearnt_is (get m q);
  names = ap (map (λ (e : Named). e.0)) (entries_forgotten m) ∙ names_still (entries m);
}

stays_so : (o : Option Entry) → o ≡ option_map (reset_entry false) o
stays_so None = refl
stays_so (Some e) = refl

none_reset : (m : EntryMap) → IsReset (λ q. false) m m
none_reset m = record { entries = λ q. stays_so (get m q); names = refl }

unlearnt_if : (b : Bool) (o : Option Entry) (e : Entry) → (b ≡ true → o ≡ Some e) → cond b (Some (unlearnt e)) o ≡ option_map (reset_entry b) o
unlearnt_if true o e is = sym (ap (option_map (reset_entry true)) (is refl))
unlearnt_if false o e is = stays_so o

one_reset : (m : EntryMap) (name : RecordName) (o : Option Entry) → get m name ≡ o → (these : Names) × IsReset these m (unlearnt_at m name o)
one_reset m name None there = ((λ q. false), none_reset m)
one_reset m name (Some e) there = (
  (λ q. is_eq (name_cmp q name)),
  record {
    entries = λ q. get-insert names_total m name (unlearnt e) q
        ∙ unlearnt_if (is_eq (name_cmp q name)) (get m q) e (λ is. ap (get m) ((same_names q name).0 (sym (tied q name) ∙ is)) ∙ there);
    names = names-put m name (unlearnt e) ∙ sym (names-put m name e) ∙ ap keys (entry-again m name e there);
  },
)

twice : (a b : Bool) (o : Option Entry) → option_map (reset_entry b) (option_map (reset_entry a) o) ≡ option_map (reset_entry (a || b)) o
twice a b None = refl
twice true true (Some e) = refl
twice true false (Some e) = refl
twice false true (Some e) = refl
twice false false (Some e) = refl

both_reset : (these those : Names) (m n k : EntryMap) → IsReset these m n → IsReset those n k → IsReset (λ q. these q || those q) m k
both_reset these those m n k one two = record {
  entries = λ q. two.entries q ∙ ap (option_map (reset_entry (those q))) (one.entries q) ∙ twice (these q) (those q) (get m q);
  names = two.names ∙ one.names;
}

each_reset : (m : EntryMap) (names : List RecordName) → (these : Names) × IsReset these m (forgotten_of m names)
each_reset m [] = ((λ q. false), none_reset m)
each_reset m (name ∷ names) =
    let (these, one) = one_reset m name (get m name) refl in
    let (those, more) = each_reset (unlearnt_at m name (get m name)) names in
    ((λ q. these q || those q), both_reset these those m (unlearnt_at m name (get m name)) (forgotten_of m (name ∷ names)) one more)

unless_reset : (absent : Option RecordName) (m : EntryMap) (names : List RecordName) → (these : Names) × IsReset these m (unless_absent absent m (forgotten_of m names))
unless_reset None m names = each_reset m names
unless_reset (Some name) m names = ((λ q. false), none_reset m)

scope_reset : (scope : Scope) (m : EntryMap) → (these : Names) × IsReset these m (after_reset scope m)
scope_reset All m = (all_names, all_reset m)
scope_reset (These names) m = unless_reset (first_absent m names.items) m names.items

-- ---- one reset, from a world that the state mirrors

opened_so : (b : Bool) (o : Option Known) → option_map opened (option_map (reset_entry b) (option_map entry_of o)) ≡ option_map (opened_after b) o
opened_so b None = refl
opened_so true (Some known) = refl
opened_so false (Some known) = refl

reset_mirrors : (old : own.State) (w : World) → own.Mirrors old w → (these : Names) (found kept : EntryMap) (book : BookMap) → AreOf found (book_of old.book) (keys old.book) → IsReset these found kept → IsOpened kept book
    → own.Mirrors (record old { book = book }) (undergoes w (Forgets these))
reset_mirrors old w m these found kept book are reset is =
    rebooked old w m (undergoes w (Forgets these)) book (λ i name. same name i) (is.names ∙ reset.names ∙ are.listed) refl refl refl
  where
    same : (name : RecordName) → book_of book name ≡ reset_book these w.book name
    same name = is.entries name ∙ ap (option_map opened) (reset.entries name ∙ ap (option_map (reset_entry (these name))) (are.same name)) ∙ opened_so (these name) (book_of old.book name)
        ∙ ap (λ (b : Book). reset_book these b name) m.book

-- ---- a story that the state mirrors

-- a trace over bytes came to this state by a story, which a state of requests and answers mirrors
record Told (base : List ℕ) (ours : Names) (s : State) (story : List Happening) : Type 0 where
  state : own.State
  spoken : Spoken base s state
  apart : StayApart ours story
  lawful : AllByRecursion IsLawfulHappening story
  mirrors : own.Mirrors state (run_through empty story)

-- and it goes on
record ToldOn (base : List ℕ) (ours : Names) (t : State) (story : List Happening) : Type 0 where
  more : List Happening
  told : Told base ours t (story ++ more)

module _ (base : List ℕ) (ours : Names) (is_base : IsBase base) where
  at_first : Told base ours start []
  at_first = record { state = own.start; spoken = spoken_start base; apart = tt; lawful = tt; mirrors = at_start }

  -- what was said is read as it was said
  read_through : (s : State) (story : List Happening) (a : Told base ours s story) → IsRead base a.state
  read_through s story a =
      let w = run_through empty story in
      let t = through_durable empty story (start_durable empty empty_is_start) in
      record {
        history = w.history;
        entries = w.entries;
        asked = λ request has. let there = a.mirrors.sent request has in t.asked there.0 request there.1;
        spelled = λ request has formed. messages_are_read_through base ours story (Asked request) is_base a.apart a.lawful (a.mirrors.sent request has) formed;
        answers = λ request answer has formed. messages_are_read_through base ours story (Answered request answer) is_base a.apart a.lawful (a.mirrors.replies (request, answer) has) formed;
      }

  by_acts : (s t : State) (story : List Happening) (a : Told base ours s story) → AllOurs ours t.history → GoesAmong base ours a.state t → ToldOn base ours t story
  by_acts s t story a all on =
      let w = run_through empty story in
      let r = ran ours a.state on.later w (subst (AllOurs ours) on.spoken.history all) on.trace a.mirrors in
      record {
        more = map Does r.led;
        told = record {
          state = on.later;
          spoken = on.spoken;
          apart = all-append (StaysApart ours) story (map Does r.led) a.apart (all_mapped (StaysApart ours) Does r.led r.apart);
          lawful = all-append IsLawfulHappening story (map Does r.led) a.lawful (all_mapped IsLawfulHappening Does r.led r.lawful);
          mirrors = subst (own.Mirrors on.later) (sym (through-append empty story (map Does r.led) ∙ without_resets w r.led)) r.mirrors;
        };
      }

  by_reset : (s : State) (story : List Happening) (a : Told base ours s story) (these : Names) (found kept : EntryMap) (book : BookMap) → AreOf found (book_of s.book) (keys s.book) → IsReset these found kept
      → IsOpened kept book → ToldOn base ours (record s { book = book }) story
  by_reset s story a these found kept book are reset is =
      let w = run_through empty story in
      let u = a.state in
      let before : AreOf found (book_of u.book) (keys u.book) = subst (λ (b : BookMap). AreOf found (book_of b) (keys b)) a.spoken.book are in
      let mirrors = reset_mirrors u w a.mirrors these found kept book before reset is in
      record {
        more = Forgets these ∷ [];
        told = record {
          state = record u { book = book };
          spoken = record { rows = a.spoken.rows; history = a.spoken.history; book = refl; sent = a.spoken.sent; formed = a.spoken.formed; written = a.spoken.written };
          apart = all-append (StaysApart ours) story (Forgets these ∷ []) a.apart (tt, tt);
          lawful = all-append IsLawfulHappening story (Forgets these ∷ []) a.lawful (tt, tt);
          mirrors = subst (own.Mirrors (record u { book = book })) (sym (through-append empty story (Forgets these ∷ []))) mirrors;
        };
      }

module _ {R J I O P Q : Type 0} (g : Registries R) (h : Journals J) (received : I → Option (List ℕ)) (posted : O → Option (List ℕ)) (remaining : P → Option (List ℕ)) (contents : Q → Option (List ℕ)) where
  module _ (base : List ℕ) (ours : Names) where
    abbrev Goes : State → State → Type 0
    Goes old new = TraceThrough g h received posted remaining contents base ours old new

    abbrev One : State → State → Type 0
    One old new = StepThrough g h received posted remaining contents base ours old new

    step_keeps : (old new : State) → One old new → Keeps old.history new.history
    step_keeps old new (does (mine step)) = mine_keeps g h received posted remaining contents base old new step
    step_keeps old new (does (theirs rows s)) = λ row has. has
    step_keeps old new (resets these found kept book are reset is) = λ row has. has

    trace_keeps : (old new : State) → Goes old new → Keeps old.history new.history
    trace_keeps old new here row has = has
    trace_keeps old new (next {mid = mid} more step) row has = step_keeps mid new step row (trace_keeps old mid more row has)

    abbrev IsNamed : State → Type 0
    IsNamed s = keys s.book ≡ names_of s.history

    step_named : (old new : State) → One old new → IsNamed old → IsNamed new
    step_named old new (does (mine step)) named = mine_named g h received posted remaining contents base old new step named
    step_named old new (does (theirs rows s)) named = named
    step_named old new (resets these found kept book are reset is) named = is.names ∙ reset.names ∙ are.listed ∙ named

    trace_named : (old new : State) → IsNamed old → Goes old new → IsNamed new
    trace_named old new named here = named
    trace_named old new named (next {mid = mid} more step) = step_named mid new step (trace_named old mid named more)

    module _ (settled : Settles g) (is_base : IsBase base) where
      one : (old new : State) (story : List Happening) → AllOurs ours new.history → Told base ours old story → One old new → ToldOn base ours new story
      one old new story all a (does (mine step)) =
          let on = goes base is_base a.state (read_through base ours is_base old story a) old a.spoken g h received posted remaining contents settled new step in
          by_acts base ours is_base old new story a all (record { later = on.later; trace = typed.next typed.here (typed.mine on.step); spoken = on.spoken })
      one old new story all a (does (theirs rows s)) =
          by_acts base ours is_base old new story a all (theirs_step base ours old a.state a.spoken g h received posted remaining contents settled rows s)
      one old new story all a (resets these found kept book are reset is) = by_reset base ours is_base old story a these found kept book are reset is

      along : (old new : State) (story : List Happening) → AllOurs ours new.history → Told base ours old story → Goes old new → ToldOn base ours new story
      along old new story all a here = record { more = []; told = subst (Told base ours old) (sym (append-nil story)) a }
      along old new story all a (next {mid = mid} more step) =
          let so_far : AllOurs ours mid.history = λ row has. all row (step_keeps mid new step row has) in
          let first = along old mid story so_far a more in
          let last = one mid new (story ++ first.more) all first.told step in
          record { more = first.more ++ last.more; told = subst (Told base ours new) (append_assoc story first.more last.more) last.told }

  pub traces_through_resets : Settles g → TracesThroughResets g h received posted remaining contents
  traces_through_resets settled base ours s t is_base known trace more =
      let names = trace_named base ours s t (trace_named base ours start s keys-empty trace) more in
      let all : AllOurs ours t.history = rows_ours ours t.book t.history names known in
      let early : AllOurs ours s.history = λ row has. all row (trace_keeps base ours s t more row has) in
      let first = along base ours settled is_base start s [] early (at_first base ours is_base) trace in
      let last = along base ours settled is_base s t first.more all first.told more in
      let w = run_through empty first.more in
      let v = run_through empty (first.more ++ last.more) in
      let before = mirrored base s first.told.state w first.told.spoken first.told.mirrors in
      let after = mirrored base t last.told.state v last.told.spoken last.told.mirrors in
      let headline = headline_through_resets ours first.more last.more last.told.apart in
      record {
        early = first.more;
        late = last.more;
        apart = last.told.apart;
        lawful = last.told.lawful;
        before = before;
        after = after;
        headline = headline;
        promised = promised_among ours w v s t (through_durable empty first.more (start_durable empty empty_is_start)).whole before after headline;
      }

  -- ---- calls

  pub resets_are_steps : ResetsAreSteps g h received posted remaining contents
  resets_are_steps base ours old last was left scope found kept book may is opened =
      let (these, reset) = scope_reset scope found in
      resets these found kept book (entries_of g h received posted remaining contents found last.book old.book was (left found may)) (subst (IsReset these found) (sym is) reset) opened

  pub closing_is_a_step : ClosingIsAStep g h received posted remaining contents
  closing_is_a_step base old last was kept book opened =
      reopens (h.entries last.journal) book (entries_of g h received posted remaining contents (h.entries last.journal) last.book old.book was (record { same = kept.same; listed = kept.names })) opened

  -- the rows were accepted, and the connector is opened over that
  all_taken : (base : List ℕ) (old : State) (rows : List Row) → AllByRecursion IsRow rows → (found : EntryMap) (book : BookMap) → AreOf found (book_of (taking_all old.book rows)) (keys (taking_all old.book rows))
      → IsOpened found book → (history : History) × Trace g h received posted remaining contents base old (record old { history = history; book = book })
  all_taken base old rows law found book are opened =
      (history_all old.history old.book rows, alone_next (offers_are_steps g h received posted remaining contents base old rows law) (reopens found book are opened))

  pub reopening_after_all : ReopeningAfterAll g h received posted remaining contents
  reopening_after_all base old before after rows law was (inl done) found book may opened =
      all_taken base old rows law found book (entries_of g h received posted remaining contents found after.book (taking_all old.book rows) (done.0 ∙ ap (λ (b : BookMap). taking_all b rows) was) (done.1 found may)) opened
  reopening_after_all base old before after rows law was (inr leaves) found book may opened = elim (leaves found may) [
    | inl are ↦ (old.history, alone_next alone_here (reopens found book (entries_of g h received posted remaining contents found before.book old.book was are) opened))
    | inr are ↦ all_taken base old rows law found book (entries_of g h received posted remaining contents found (taking_all before.book rows) (taking_all old.book rows) (ap (λ (b : BookMap). taking_all b rows) was) are) opened
  ]
