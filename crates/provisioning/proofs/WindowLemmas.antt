-- The steps of a run of many records.
use Rattle.std.proofs.Common.{◌≡◌, ◌⊎◌, ◌+◌, ◌<◌, ◌-◌, ℕ, true, List, [], ◌∷◌, ◌++◌, map, length, drop, Option, Some, None, Result, Ok, Err, inl, inr, refl, ap, sym, ◌∙◌, subst, append_assoc, append-nil, arith}
use Rattle.std.proofs.lemmas.List.{map_push}
use Rattle.scim_key.specs.declared.records.RecordName.{RecordName}
use Rattle.journal_core.specs.declared.journals.Journal.{Ghosts}
use Rattle.connector_core.specs.Book.{Book}
use Rattle.connector_core.specs.Maps.{book_of}
use Rattle.connector_core.specs.State.{State}
use Rattle.provisioning.proofs.ListLemmas.{adds_more, adds_none}
use Rattle.provisioning.proofs.MoveLemmas.{looks_more, moves_beside, moves_more, no_moves, one_move, stops_beside, stops_here, stops_more, with_back, with_front}
use Rattle.provisioning.proofs.RunLemmas.{goes_next, streak_next, tally_next}
use Rattle.provisioning.specs.Openings.{Opening}
use Rattle.provisioning.specs.Records.{most_exchanges}
use Rattle.provisioning.specs.Runs.{Done, IsUntold, NeverGivesUp, Tells, streak_of, tally_of, tally_with}
use Rattle.provisioning.specs.Services.{Service}
use Rattle.provisioning.specs.Streaks.{go_on_after, streak_with}
use Rattle.provisioning.specs.Tracks.{Advances, Begins, Closes, Steps, StepsWithin, Stays, faulted, fresh, put_off}
use Rattle.provisioning.specs.Windows.{AllMoved, BeginsNext, GivesUp, Goes, IsFinished, IsThrough, IsWith, KeepsTrack, Leaves, LooksThrough, Moves, PartMoved, PushesAbreast, PushesThrough, Scene, Stops, TakesFirst, at_start, done_of, name_of, names_in, scene_of, with_first}
use Rattle.provisioning.specs.declared.faults.RunFault.{RunFault}
use Rattle.provisioning.specs.declared.faults.RunFault.TheVariants.{Memory}
use Rattle.provisioning.specs.declared.pushing.Tally.{Tally}
use Rattle.provisioning.specs.declared.records.Standing.{Standing}
use Rattle.provisioning.specs.declared.streaks.Streak.{Streak}
use Rattle.provisioning.specs.declared.tracks.Account.{Account}
use Rattle.provisioning.specs.declared.tracks.Flight.{Flight}
use Rattle.provisioning.specs.declared.tracks.Track.{Track}
use Rattle.provisioning.specs.declared.windows.Window.{Window}
use Rattle.provisioning.specs.declared.tracks.Track.TheVariants.{UnderWay, Delayed, Done as IsDone}

-- ---- lists

pub none_left : {X : Type 0} (xs : List X) → xs ≡ drop 1 xs → xs ≡ []
none_left [] is = refl
none_left (x ∷ xs) is =
    let lengths : length (x ∷ xs) ≡ length xs = ap length is in
    absurd (omega (arith, lengths))

pub is_empty : {X : Type 0} (xs : List X) → length xs ≡ 0 → xs ≡ []
is_empty [] is = refl
is_empty (x ∷ xs) is = absurd (omega (arith, is))

pub names_push : {I O : Type 0} (ts : List (Track I O)) (track : Track I O) (later : List RecordName) → map name_of (ts ++ track ∷ []) ++ later ≡ map name_of ts ++ name_of track ∷ later
names_push ts track later = ap (λ xs. xs ++ later) (map_push name_of ts track) ∙ append_assoc (map name_of ts) (name_of track ∷ []) later

abbrev pub scene : {I O J : Type 0} → List RecordName → List (Track I O) → State J → Scene I O J
scene waiting ts state = record { waiting = waiting; tracks = ts; state = state }

-- the records so far are at the end, and the others before them; the names are in their order
pub record IsTurned {I O : Type 0} (all : List (Track I O)) (ts : List (Track I O)) (count : ℕ) : Type 0 where
  pub rest : List (Track I O)
  pub done : List (Track I O)
  pub split : ts ≡ rest ++ done
  pub names : map name_of done ++ map name_of rest ≡ map name_of all
  pub left : length rest + count ≡ length all

pub not_turned : {I O : Type 0} (all : List (Track I O)) → IsTurned all all 0
not_turned all = record { rest = all; done = []; split = sym (append-nil all); names = refl; left = omega arith }

module _ {I O J : Type 0} (remaining : I → Option (List ℕ)) (contents : O → Option (List ℕ)) (g : Ghosts J) (service : Service) (window : ℕ) where
  -- ---- beginning

  pub begun_name : (a : Account) (opened : List (Opening I O)) (book : Book) (track : Track I O) → Begins contents service a opened book track → name_of track ≡ a.name
  begun_name a opened book (UnderWay later f) b = ap (λ (x : Account). x.name) b.later_is
  begun_name a opened book (Delayed later) b = absurd b
  begun_name a opened book (IsDone later standing) b = ap (λ (x : Account). x.name) b.1

  begins_at : (name : RecordName) (opened : List (Opening I O)) (track : Track I O) (waiting later : List RecordName) (ts us : List (Track I O)) (state : State J)
      → length ts < window → waiting ≡ name ∷ later → IsWith track ts us → Begins contents service (fresh name) opened (book_of state.book) track
      → Moves remaining contents g service window opened [] (scene waiting ts state) (scene later us state)
  begins_at name opened track waiting later ts us state room waits with begins = one_move remaining contents g service window opened [] (scene waiting ts state) (scene later us state) (inl (record {
    name = name;
    track = track;
    room = room;
    waiting = waits;
    tracks = with;
    begins = begins;
    told_none = refl;
    state = refl;
  }))

  pub goes_more : (first then : List (Opening I O)) (old between new : Scene I O J) (result : Result (Unit {0}) RunFault)
      → Goes remaining contents g service window first old between (Ok tt) → Goes remaining contents g service window then between new result → Goes remaining contents g service window (first ++ then) old new result
  goes_more first then old between new (Ok done) a b = (moves_more remaining contents g service window first then [] [] old between new a.0 b.0, b.1 ∙ a.1)
  goes_more first then old between new (Err fault) a b = stops_more remaining contents g service window first then [] [] old between new.tracks new.state fault a.0 b

  pub goes_none : (here : Scene I O J) → Goes remaining contents g service window [] here here (Ok tt)
  goes_none here = (no_moves remaining contents g service window here, refl)

  -- one record more, at the end of the window
  begins_end : (opened : List (Opening I O)) (waiting later : List RecordName) (ts : List (Track I O)) (state : State J) (track : Track I O)
      → length ts < window → BeginsNext contents service opened waiting later (book_of state.book) (Ok (Some track)) → Goes remaining contents g service window opened (scene waiting ts state) (scene later (ts ++ track ∷ []) state) (Ok tt)
  begins_end opened waiting later ts state track room (name, waits, begins) = (
    begins_at name opened track waiting later ts (ts ++ track ∷ []) state room waits (with_back track ts) begins,
    names_push ts track later ∙ ap (λ (n : RecordName). map name_of ts ++ n ∷ later) (begun_name (fresh name) opened (book_of state.book) track begins) ∙ ap (λ xs. map name_of ts ++ xs) (sym waits),
  )

  pub begins_last : (opened : List (Opening I O)) (waiting later : List RecordName) (ts us : List (Track I O)) (state : State J) (track : Track I O) (o : Option (Track I O))
      → length ts < window → o ≡ Some track → us ≡ ts ++ track ∷ [] → BeginsNext contents service opened waiting later (book_of state.book) (Ok o) → Goes remaining contents g service window opened (scene waiting ts state) (scene later us state) (Ok tt)
  begins_last opened waiting later ts us state track o room some end begins =
      subst (λ (xs : List (Track I O)). Goes remaining contents g service window opened (scene waiting ts state) (scene later xs state) (Ok tt)) (sym end)
      (begins_end opened waiting later ts state track room (subst (λ (x : Option (Track I O)). BeginsNext contents service opened waiting later (book_of state.book) (Ok x)) some begins))

  pub begins_none : (opened : List (Opening I O)) (waiting later : List RecordName) (ts : List (Track I O)) (state : State J)
      → BeginsNext contents service opened waiting later (book_of state.book) (Ok None) → Goes remaining contents g service window opened (scene waiting ts state) (scene later ts state) (Ok tt)
  begins_none opened waiting later ts state (none, waits, left) =
      subst (λ (o : List (Opening I O)). Goes remaining contents g service window o (scene waiting ts state) (scene later ts state) (Ok tt)) (sym none)
      (subst (λ (w : List RecordName). Goes remaining contents g service window [] (scene waiting ts state) (scene w ts state) (Ok tt)) (waits ∙ sym left) (goes_none (scene waiting ts state)))

  pub begins_not : (opened : List (Opening I O)) (waiting later : List RecordName) (ts : List (Track I O)) (state : State J) (fault : RunFault)
      → length ts < window → BeginsNext contents service opened waiting later (book_of state.book) (Err fault) → Goes remaining contents g service window opened (scene waiting ts state) (scene later ts state) (Err fault)
  begins_not opened waiting later ts state fault room (name, waits, unmade) =
      stops_here remaining contents g service window opened (scene waiting ts state) ts state fault (inl (refl, refl, record { room = room; unmade = unmade; waits = inr (name, later, waits) }))

  -- the first record, if none was begun
  begins_alone : (opened : List (Opening I O)) (waiting later : List RecordName) (state : State J) (result : Result (Option (Track I O)) RunFault)
      → 0 < window → BeginsNext contents service opened waiting later (book_of state.book) result
      → TakesFirst remaining contents g service window opened (scene waiting [] state) (scene later [] state) result
  begins_alone opened waiting later state (Ok (Some track)) room (name, waits, begins) = (
    begins_at name opened track waiting later [] (track ∷ []) state room waits (with_front track []) begins,
    ap (λ (n : RecordName). n ∷ later) (begun_name (fresh name) opened (book_of state.book) track begins) ∙ sym waits,
  )
  begins_alone opened waiting later state (Ok None) room (none, waits, left) =
      (none, ap (λ (w : List RecordName). scene w [] state) (left ∙ sym waits), waits, refl, left)
  begins_alone opened waiting later state (Err fault) room unbegun = begins_not opened waiting later [] state fault room unbegun

  pub begins_first : (opened : List (Opening I O)) (waiting later : List RecordName) (ts us : List (Track I O)) (state : State J) (result : Result (Option (Track I O)) RunFault)
      → 0 < window → ts ≡ us → us ≡ drop 1 ts → BeginsNext contents service opened waiting later (book_of state.book) result
      → TakesFirst remaining contents g service window opened (scene waiting ts state) (scene later us state) result
  begins_first opened waiting later ts us state result room same rest begins =
      let none : ts ≡ [] = none_left ts (same ∙ rest) in
      subst (λ (xs : List (Track I O)). TakesFirst remaining contents g service window opened (scene waiting xs state) (scene later us state) result) (sym none)
      (subst (λ (xs : List (Track I O)). TakesFirst remaining contents g service window opened (scene waiting [] state) (scene later xs state) result) (sym none ∙ same)
      (begins_alone opened waiting later state result room begins))

  pub takes_first : (waiting : List RecordName) (ts us : List (Track I O)) (state : State J) (track : Track I O) → ts ≡ track ∷ us
      → TakesFirst remaining contents g service window [] (scene waiting ts state) (scene waiting us state) (Ok (Some track))
  takes_first waiting ts us state track is = (
    subst (λ (xs : List (Track I O)). Moves remaining contents g service window [] [] (scene waiting ts state) (scene waiting xs state)) is (no_moves remaining contents g service window (scene waiting ts state)),
    ap (λ (xs : List (Track I O)). map name_of xs ++ waiting) (sym is),
  )

  -- ---- the first record, kept

  pub keeps_not : (track : Track I O) (beside : Result (Unit {0}) RunFault) (fault : RunFault) (old new : State J) (closed : Result (Unit {0}) RunFault)
      → beside ≡ Err fault → Closes remaining g service track old new closed → KeepsTrack remaining g service track beside old new (Err fault)
  keeps_not track beside fault old new closed is closes = subst (λ (b : Result (Unit {0}) RunFault). KeepsTrack remaining g service track b old new (Err fault)) (sym is) (closed, closes, refl)

  -- ---- advancing

  stays_to : (waiting : List RecordName) (track later : Track I O) (others ts us : List (Track I O)) (opened : List (Opening I O)) (old new : State J)
      → Stays remaining contents g service track opened old new (Ok later) → IsWith track others ts → IsWith later others us
      → Moves remaining contents g service window opened [] (scene waiting ts old) (scene waiting us new) × (name_of later ≡ name_of track)
  stays_to waiting track later others ts us opened old new (none, same, is) before after =
      let later_is : later ≡ track = cc in (
        one_move remaining contents g service window opened [] (scene waiting ts old) (scene waiting us new) (inr (inr (inr (inr (inr (record {
          track = track;
          others = others;
          before = before;
          after = subst (λ (t : Track I O). IsWith t others us) later_is after;
          opened_none = none;
          told_none = refl;
          state = same;
          waiting = refl;
        })))))),
        ap name_of later_is,
      )

  pub advances_to : (waiting : List RecordName) (track later : Track I O) (others ts us : List (Track I O)) (opened : List (Opening I O)) (old new : State J)
      → Advances remaining contents g service track opened old new (Ok later) → IsWith track others ts → IsWith later others us
      → Moves remaining contents g service window opened [] (scene waiting ts old) (scene waiting us new) × (name_of later ≡ name_of track)
  advances_to waiting (UnderWay a f) later others ts us opened old new (inl c) before after = (
    one_move remaining contents g service window opened [] (scene waiting ts old) (scene waiting us new) (inr (inl (record {
      account = a;
      flight = f;
      fault = c.fault;
      track = later;
      others = others;
      before = before;
      after = after;
      learnt = c.learnt;
      begins = c.goes_on;
      told_none = refl;
      waiting = refl;
    }))),
    begun_name _ opened (book_of new.book) later c.goes_on,
  )
  advances_to waiting (UnderWay a f) later others ts us opened old new (inr (inl d)) before after =
      let later_is : later ≡ Delayed (put_off (faulted d.fault a)) = ok_same d.result_is in (
        one_move remaining contents g service window opened [] (scene waiting ts old) (scene waiting us new) (inr (inr (inl (record {
          account = a;
          flight = f;
          fault = d.fault;
          others = others;
          before = before;
          after = subst (λ (t : Track I O). IsWith t others us) later_is after;
          learnt = d.learnt;
          may = d.may;
          opened_none = d.opened_none;
          told_none = refl;
          waiting = refl;
        })))),
        ap name_of later_is,
      )
    where
      ok_same : {A B : Type 0} {a b : A} → ◌≡◌ {A = Result A B} (Ok a) (Ok b) → a ≡ b
      ok_same is = cc
  advances_to waiting (UnderWay a f) later others ts us opened old new (inr (inr e)) before after = absurd (ok_is_no_err e.3)
    where
      ok_is_no_err : {A B : Type 0} {a : A} {b : B} → Ok a ≡ Err b → ⊥
      ok_is_no_err is = cc
  advances_to waiting (Delayed a) later others ts us opened old new (same, goes) before after = (
    one_move remaining contents g service window opened [] (scene waiting ts old) (scene waiting us new) (inr (inr (inr (inl (record {
      account = a;
      track = later;
      others = others;
      before = before;
      after = after;
      begins = subst (λ (s : State J). Begins contents service a opened (book_of s.book) later) same goes;
      told_none = refl;
      state = same;
      waiting = refl;
    }))))),
    begun_name a opened (book_of new.book) later goes,
  )
  advances_to waiting (IsDone a standing) later others ts us opened old new stays before after = stays_to waiting (IsDone a standing) later others ts us opened old new stays before after

  pub steps_to : (waiting : List RecordName) (track later : Track I O) (others ts us : List (Track I O)) (opened : List (Opening I O)) (old new : State J)
      → Steps remaining contents g service track opened old new (Ok later) → IsWith track others ts → IsWith later others us
      → Moves remaining contents g service window opened [] (scene waiting ts old) (scene waiting us new) × (name_of later ≡ name_of track)
  steps_to waiting track later others ts us opened old new (inl advances) before after = advances_to waiting track later others ts us opened old new advances before after
  steps_to waiting track later others ts us opened old new (inr stays) before after = stays_to waiting track later others ts us opened old new stays before after

-- ---- all others, from the first to the last

turned_next : {I O : Type 0} (all ts others : List (Track I O)) (track later : Track I O) (count : ℕ) → IsTurned all ts count → ts ≡ track ∷ others → name_of later ≡ name_of track → count < length all
    → IsTurned all (others ++ later ∷ []) (count + 1)
turned_next {I} {O} all ts others track later count t is name less = go t.rest t.done t.split t.names t.left
  where
    go : (rest done : List (Track I O)) → ts ≡ rest ++ done → map name_of done ++ map name_of rest ≡ map name_of all → length rest + count ≡ length all → IsTurned all (others ++ later ∷ []) (count + 1)
    go [] done split names left = absurd (omega (arith, left, less))
    go (r ∷ rest) done split names left =
        let same : track ∷ others ≡ r ∷ (rest ++ done) = sym is ∙ split in
        let first : track ≡ r = cc in
        let then : others ≡ rest ++ done = cc in
        record {
          rest = rest;
          done = done ++ later ∷ [];
          split = ap (λ xs. xs ++ later ∷ []) then ∙ append_assoc rest done (later ∷ []);
          names = names_push done later (map name_of rest) ∙ ap (λ (n : RecordName). map name_of done ++ n ∷ map name_of rest) (name ∙ ap name_of first) ∙ names;
          left = omega (arith, left);
        }

pub turned_to : {I O : Type 0} (all ts others us : List (Track I O)) (track later : Track I O) (count : ℕ) → IsTurned all ts count → ts ≡ track ∷ others → us ≡ others ++ later ∷ [] → name_of later ≡ name_of track → count < length all
    → IsTurned all us (count + 1)
turned_to {I} {O} all ts others us track later count t is end name less =
    subst (λ (xs : List (Track I O)). IsTurned all xs (count + 1)) (sym end) (turned_next all ts others track later count t is name less)

pub turned_all : {I O : Type 0} (all ts : List (Track I O)) (count : ℕ) → IsTurned all ts count → count ≡ length all → map name_of ts ≡ map name_of all
turned_all all ts count t is =
    let none : t.rest ≡ [] = is_empty t.rest (omega (arith, t.left, is)) in
    ap (map name_of) (t.split ∙ ap (λ xs. xs ++ t.done) none) ∙ sym (append-nil (map name_of t.done)) ∙ ap (λ xs. map name_of t.done ++ map name_of xs) (sym none) ∙ t.names

pub turned_none : {I O : Type 0} (all ts : List (Track I O)) (count : ℕ) → IsTurned all ts count → ts ≡ [] → count < length all → ⊥
turned_none {I} {O} all ts count t is less = go t.rest (sym t.split ∙ is) t.left
  where
    go : (rest : List (Track I O)) → rest ++ t.done ≡ [] → length rest + count ≡ length all → ⊥
    go [] none left = absurd (omega (arith, left, less))
    go (r ∷ rest) none left = absurd (cc)

module _ {I O J : Type 0} (remaining : I → Option (List ℕ)) (contents : O → Option (List ℕ)) (g : Ghosts J) (service : Service) (window : ℕ) where
  pub moves_on : (first then : List (Opening I O)) (told : List Done) (old between new : Scene I O J)
      → Moves remaining contents g service window first told old between → Moves remaining contents g service window then [] between new → Moves remaining contents g service window (first ++ then) told old new
  moves_on first then told old between new a b =
      subst (λ (d : List Done). Moves remaining contents g service window (first ++ then) d old new) (append-nil told) (moves_more remaining contents g service window first then told [] old between new a b)

  pub stops_on : (first then : List (Opening I O)) (told : List Done) (old between : Scene I O J) (rest : List (Track I O)) (new : State J) (fault : RunFault)
      → Moves remaining contents g service window first told old between → Stops remaining contents g service window then [] between rest new fault → Stops remaining contents g service window (first ++ then) told old rest new fault
  stops_on first then told old between rest new fault a b =
      subst (λ (d : List Done). Stops remaining contents g service window (first ++ then) d old rest new fault) (append-nil told) (stops_more remaining contents g service window first then told [] old between rest new fault a b)

  pub others_stop : (first then : List (Opening I O)) (old : Scene I O J) (waiting : List RecordName) (ts others : List (Track I O)) (state new : State J) (track : Track I O) (fault : RunFault)
      → Moves remaining contents g service window first [] old (scene waiting ts state) → ts ≡ track ∷ others → Steps remaining contents g service track then state new (Err fault)
      → Goes remaining contents g service window (first ++ then) old (scene waiting others new) (Err fault)
  others_stop first then old waiting ts others state new track fault moves is (inr (none, same, stays)) = absurd (cc)
  others_stop first then old waiting ts others state new track fault moves is (inl advances) =
      stops_on first then [] old (scene waiting ts state) others new fault moves
      (stops_here remaining contents g service window then (scene waiting ts state) others new fault (inr (inl (track, ([], others, is, refl), advances))))

  pub others_next : (first then : List (Opening I O)) (old : Scene I O J) (waiting : List RecordName) (ts others us : List (Track I O)) (state new : State J) (track later : Track I O)
      → Moves remaining contents g service window first [] old (scene waiting ts state) → ts ≡ track ∷ others → us ≡ others ++ later ∷ [] → Steps remaining contents g service track then state new (Ok later)
      → Moves remaining contents g service window (first ++ then) [] old (scene waiting us new) × (name_of later ≡ name_of track)
  others_next first then old waiting ts others us state new track later moves is end advances =
      let to = steps_to remaining contents g service window waiting track later others ts us then state new advances ([], others, is, refl) (others, [], end, sym (append-nil others)) in
      (moves_on first then [] old (scene waiting ts state) (scene waiting us new) moves to.0, to.1)

  -- ---- the first record, until it is done

  pub record IsFinishing (opened : List (Opening I O)) (begun : Track I O) (old : Scene I O J) (first : Track I O) (here : Scene I O J) : Type 0 where
    pub moves : Moves remaining contents g service window opened [] (with_first begun old) (with_first first here)
    pub names : names_in here ≡ names_in old
    pub name : name_of first ≡ name_of begun

  pub finishing_none : (first : Track I O) (here : Scene I O J) → IsFinishing [] first here first here
  finishing_none first here = record { moves = no_moves remaining contents g service window (with_first first here); names = refl; name = refl }

  pub finishing_beside : (room : ℕ) (less : room < window) (done then : List (Opening I O)) (begun : Track I O) (old : Scene I O J) (first : Track I O) (here there : Scene I O J)
      → IsFinishing done begun old first here → Goes remaining contents g service room then here there (Ok tt) → IsFinishing (done ++ then) begun old first there
  finishing_beside room less done then begun old first here there f goes = record {
    moves = moves_on done then [] (with_first begun old) (with_first first here) (with_first first there) f.moves (moves_beside remaining contents g service room window less first then [] here there goes.0);
    names = goes.1 ∙ f.names;
    name = f.name;
  }

  pub finishing_left : (room : ℕ) (less : room < window) (done then : List (Opening I O)) (begun : Track I O) (old : Scene I O J) (first : Track I O) (here there : Scene I O J) (new : State J) (closed : Result (Unit {0}) RunFault) (fault : RunFault)
      → IsFinishing done begun old first here → Goes remaining contents g service room then here there (Err fault) → Closes remaining g service first there.state new closed
      → Leaves remaining contents g service window (done ++ then) [] (with_first begun old) (scene there.waiting there.tracks new) fault
  finishing_left room less done then begun old first here there new closed fault f goes closes = (
    first ∷ [],
    there.state,
    stops_on done then [] (with_first begun old) (with_first first here) (first ∷ there.tracks) there.state fault f.moves
        (stops_beside remaining contents g service room window less first then [] here there.tracks there.state fault goes),
    (closed, new, closes, refl),
  )

  finishing_next : (done then : List (Opening I O)) (begun : Track I O) (old : Scene I O J) (first later : Track I O) (here : Scene I O J) (new : State J)
      → IsFinishing done begun old first here → Advances remaining contents g service first then here.state new (Ok later) → IsFinishing (done ++ then) begun old later (scene here.waiting here.tracks new)
  finishing_next done then begun old first later here new f advances =
      let to = advances_to remaining contents g service window here.waiting first later here.tracks (first ∷ here.tracks) (later ∷ here.tracks) then here.state new advances (with_front first here.tracks) (with_front later here.tracks) in
      record {
        moves = moves_on done then [] (with_first begun old) (with_first first here) (with_first later (scene here.waiting here.tracks new)) f.moves to.0;
        names = f.names;
        name = to.1 ∙ f.name;
      }

  finishing_stays : (done then : List (Opening I O)) (begun : Track I O) (old : Scene I O J) (first later : Track I O) (here : Scene I O J) (new : State J)
      → IsFinishing done begun old first here → Stays remaining contents g service first then here.state new (Ok later) → IsFinishing (done ++ then) begun old later (scene here.waiting here.tracks new)
  finishing_stays done then begun old first later here new f (none, same, is) =
      let later_is : later ≡ first = cc in
      subst (λ (t : Track I O). IsFinishing (done ++ then) begun old t (scene here.waiting here.tracks new)) (sym later_is)
      (subst (λ (s : State J). IsFinishing (done ++ then) begun old first (scene here.waiting here.tracks s)) (sym same)
      (subst (λ (o : List (Opening I O)). IsFinishing o begun old first here) (sym (ap (λ xs. done ++ xs) none ∙ append-nil done)) f))

  pub finishing_steps : (turns left : ℕ) (done then : List (Opening I O)) (begun : Track I O) (old : Scene I O J) (first later : Track I O) (here : Scene I O J) (new : State J)
      → IsFinishing done begun old first here → StepsWithin remaining contents g service turns first then here.state new (Ok (later, left))
      → IsFinishing (done ++ then) begun old later (scene here.waiting here.tracks new)
  finishing_steps turns left done then begun old first later here new f (inl (advances, same)) = finishing_next done then begun old first later here new f advances
  finishing_steps turns left done then begun old first later here new f (inr (stays, less)) = finishing_stays done then begun old first later here new f stays

  pub finishing_stopped : (done then : List (Opening I O)) (begun : Track I O) (old : Scene I O J) (first : Track I O) (here : Scene I O J) (new : State J) (fault : RunFault)
      → IsFinishing done begun old first here → Advances remaining contents g service first then here.state new (Err fault)
      → Leaves remaining contents g service window (done ++ then) [] (with_first begun old) (scene here.waiting here.tracks new) fault
  finishing_stopped done then begun old first here new fault f advances = (
    [],
    new,
    stops_on done then [] (with_first begun old) (with_first first here) here.tracks new fault f.moves
        (stops_here remaining contents g service window then (with_first first here) here.tracks new fault (inr (inl (first, with_front first here.tracks, advances)))),
    refl,
  )

  finishing_end : (opened : List (Opening I O)) (begun : Track I O) (old : Scene I O J) (a : Account) (standing : Standing) (here : Scene I O J) (result : Done)
      → IsFinishing opened begun old (IsDone a standing) here → result ≡ done_of a standing → IsFinished remaining contents g service window opened begun old here result
  finishing_end opened begun old a standing here result f is = record {
    account = a;
    standing = standing;
    done_is = is;
    name_is = f.name;
    moves = f.moves;
    names = f.names;
  }

  pub finishing_done : (opened : List (Opening I O)) (begun : Track I O) (old : Scene I O J) (track : Track I O) (a : Account) (standing : Standing) (here : Scene I O J) (result : Done)
      → IsFinishing opened begun old track here → track ≡ IsDone a standing → result ≡ done_of a standing → IsFinished remaining contents g service window opened begun old here result
  finishing_done opened begun old track a standing here result f end is =
      finishing_end opened begun old a standing here result (subst (λ (t : Track I O). IsFinishing opened begun old t here) end f) is

  -- the first record beside others that went on, or didn't
  pub beside_kept : (room : ℕ) (less : room < window) (done then : List (Opening I O)) (begun : Track I O) (old : Scene I O J) (first later : Track I O) (here there : Scene I O J) (new : State J) (beside : Result (Unit {0}) RunFault)
      → IsFinishing done begun old first here → Goes remaining contents g service room then here there beside → KeepsTrack remaining g service first beside there.state new (Ok later)
      → IsFinishing (done ++ then) begun old later (scene there.waiting there.tracks new)
  beside_kept room less done then begun old first later here there new (Ok ok) f goes (same, is) =
      let later_is : later ≡ first = cc in
      subst (λ (t : Track I O). IsFinishing (done ++ then) begun old t (scene there.waiting there.tracks new)) (sym later_is)
      (subst (λ (s : State J). IsFinishing (done ++ then) begun old first (scene there.waiting there.tracks s)) (sym same) (finishing_beside room less done then begun old first here there f goes))
  beside_kept room less done then begun old first later here there new (Err fault) f goes (closed, closes, is) = absurd (cc)

  pub beside_lost : (room : ℕ) (less : room < window) (done then : List (Opening I O)) (begun : Track I O) (old : Scene I O J) (first : Track I O) (here there : Scene I O J) (new : State J) (beside : Result (Unit {0}) RunFault) (fault : RunFault)
      → IsFinishing done begun old first here → Goes remaining contents g service room then here there beside → KeepsTrack remaining g service first beside there.state new (Err fault)
      → Leaves remaining contents g service window (done ++ then) [] (with_first begun old) (scene there.waiting there.tracks new) fault
  beside_lost room less done then begun old first here there new (Ok ok) fault f goes (same, is) = absurd (cc)
  beside_lost room less done then begun old first here there new (Err end) fault f goes (closed, closes, is) =
      let fault_is : fault ≡ end = cc in
      subst (λ (e : RunFault). Leaves remaining contents g service window (done ++ then) [] (with_first begun old) (scene there.waiting there.tracks new) e) (sym fault_is)
      (finishing_left room less done then begun old first here there new closed end f goes closes)

  -- ---- one record after another

  pub record IsThroughSo (limit : ℕ) (opened : List (Opening I O)) (old here : Scene I O J) (before now : Option (List Done)) (tally : Tally) (streak : Option Streak) : Type 0 where
    pub done : List Done
    pub names : map (λ d. d.0) done ++ names_in here ≡ names_in old
    pub moves : Moves remaining contents g service window opened done old here
    pub tells : Tells before now done
    pub tally_is : tally ≡ tally_of done
    pub streak_is : streak ≡ streak_of done
    pub never : NeverGivesUp limit done

  pub through_none : (limit : ℕ) (old : Scene I O J) (before : Option (List Done)) → IsThroughSo limit [] old old before before (record { exchanges = 0; is_settled = true }) None
  through_none limit old before = record { done = []; names = refl; moves = no_moves remaining contents g service window old; tells = adds_none before; tally_is = refl; streak_is = refl; never = tt }

  -- a fault ended the run after some records
  abbrev pub IsBroken : (limit : ℕ) → (opened : List (Opening I O)) → (old new : Scene I O J) → RunFault → Type 0
  IsBroken limit opened old new fault = (told : List Done)
      × ((Leaves remaining contents g service window opened told old new fault × NeverGivesUp limit told) ⊎ GivesUp remaining contents g service window limit opened told old new.tracks new.state fault)

  pub through_stopped : (limit : ℕ) (o1 o2 : List (Opening I O)) (old here there : Scene I O J) (before now : Option (List Done)) (tally : Tally) (streak : Option Streak) (fault : RunFault)
      → IsThroughSo limit o1 old here before now tally streak → TakesFirst remaining contents g service window o2 here there (Err fault)
      → IsBroken limit (o1 ++ o2) old there fault
  through_stopped limit o1 o2 old here there before now tally streak fault so stops =
      (so.done, inl (([], there.state, stops_on o1 o2 so.done old here there.tracks there.state fault so.moves stops, refl), so.never))

  pub through_left : (limit : ℕ) (o1 o2 o3 : List (Opening I O)) (old here there after : Scene I O J) (first : Track I O) (before now : Option (List Done)) (tally : Tally) (streak : Option Streak) (fault : RunFault)
      → IsThroughSo limit o1 old here before now tally streak → TakesFirst remaining contents g service window o2 here there (Ok (Some first)) → Leaves remaining contents g service window o3 [] (with_first first there) after fault
      → IsBroken limit ((o1 ++ o2) ++ o3) old after fault
  through_left limit o1 o2 o3 old here there after first before now tally streak fault so takes (front, between, stops, looked) = (
    so.done,
    inl (
      (
        front,
        between,
        stops_on (o1 ++ o2) o3 so.done old (with_first first there) (front ++ after.tracks) between fault
            (moves_on o1 o2 so.done old here (with_first first there) so.moves takes.0) stops,
        looked,
      ),
      so.never,
    ),
  )

  moves_to_done : (limit : ℕ) (o1 o2 o3 : List (Opening I O)) (old here there after : Scene I O J) (first : Track I O) (before now : Option (List Done)) (tally : Tally) (streak : Option Streak) (d : Done)
      → (so : IsThroughSo limit o1 old here before now tally streak) → TakesFirst remaining contents g service window o2 here there (Ok (Some first)) → (f : IsFinished remaining contents g service window o3 first there after d)
      → Moves remaining contents g service window ((o1 ++ o2) ++ o3) so.done old (with_first (IsDone f.account f.standing) after)
  moves_to_done limit o1 o2 o3 old here there after first before now tally streak d so takes f =
      moves_on (o1 ++ o2) o3 so.done old (with_first first there) (with_first (IsDone f.account f.standing) after)
      (moves_on o1 o2 so.done old here (with_first first there) so.moves takes.0) f.moves

  pub through_untold : (limit : ℕ) (o1 o2 o3 : List (Opening I O)) (old here there after : Scene I O J) (first : Track I O) (before now : Option (List Done)) (tally : Tally) (streak : Option Streak) (d : Done) (fault : RunFault)
      → IsThroughSo limit o1 old here before now tally streak → TakesFirst remaining contents g service window o2 here there (Ok (Some first)) → IsFinished remaining contents g service window o3 first there after d → IsUntold fault
      → IsBroken limit (((o1 ++ o2) ++ o3) ++ []) old after fault
  through_untold limit o1 o2 o3 old here there after first before now tally streak d fault so takes f untold = (
    so.done,
    inl (
      (
        [],
        after.state,
        stops_on ((o1 ++ o2) ++ o3) [] so.done old (with_first (IsDone f.account f.standing) after) after.tracks after.state fault
            (moves_to_done limit o1 o2 o3 old here there after first before now tally streak d so takes f)
            (stops_here remaining contents g service window [] (with_first (IsDone f.account f.standing) after) after.tracks after.state fault
            (inr (inr (f.account, f.standing, with_front (IsDone f.account f.standing) after.tracks, refl, refl, untold)))),
        refl,
      ),
      so.never,
    ),
  )

  -- the streak with one record more
  next_streak : (streak next : Option Streak) (done : List Done) (d : Done) → streak ≡ streak_of done → next ≡ streak_with streak d.1 → next ≡ streak_of (done ++ d ∷ [])
  next_streak streak next done d is longer = longer ∙ ap (λ (s : Option Streak). streak_with s d.1) is ∙ sym (streak_next None done d)

  pub through_given_up : (limit : ℕ) (o1 o2 o3 : List (Opening I O)) (old here there after : Scene I O J) (first : Track I O) (before now : Option (List Done)) (tally : Tally) (streak next : Option Streak) (d : Done) (fault : RunFault)
      → IsThroughSo limit o1 old here before now tally streak → TakesFirst remaining contents g service window o2 here there (Ok (Some first)) → IsFinished remaining contents g service window o3 first there after d
      → next ≡ streak_with streak d.1 → go_on_after limit next ≡ Err fault
      → IsBroken limit ((o1 ++ o2) ++ o3) old after fault
  through_given_up limit o1 o2 o3 old here there after first before now tally streak next d fault so takes f longer ends = (
    so.done ++ d ∷ [],
    inr (record {
      earlier = so.done;
      account = f.account;
      standing = f.standing;
      between = with_first (IsDone f.account f.standing) after;
      moves = moves_to_done limit o1 o2 o3 old here there after first before now tally streak d so takes f;
      tracks = with_front (IsDone f.account f.standing) after.tracks;
      told_are = ap (λ (e : Done). so.done ++ e ∷ []) f.done_is;
      state = refl;
      never = so.never;
      gives_up = ap (go_on_after limit) (sym (next_streak streak next so.done d so.streak_is longer)) ∙ ends;
    }),
  )

  pub through_next : (limit : ℕ) (o1 o2 o3 : List (Opening I O)) (old here there after : Scene I O J) (first : Track I O) (before now then : Option (List Done)) (tally next : Tally) (streak longer : Option Streak) (d : Done)
      → IsThroughSo limit o1 old here before now tally streak → TakesFirst remaining contents g service window o2 here there (Ok (Some first)) → IsFinished remaining contents g service window o3 first there after d
      → Tells now then (d ∷ []) → next ≡ tally_with tally d.1 → longer ≡ streak_with streak d.1 → go_on_after limit longer ≡ Ok tt
      → IsThroughSo limit (((o1 ++ o2) ++ o3) ++ []) old after before then next longer
  through_next limit o1 o2 o3 old here there after first before now then tally next streak longer d so takes f told counted met goes = record {
    done = so.done ++ d ∷ [];
    names = ap (λ xs. xs ++ names_in after) (map_push (λ (e : Done). e.0) so.done d) ∙ append_assoc (map (λ (e : Done). e.0) so.done) (d.0 ∷ []) (names_in after)
        ∙ ap (λ (n : RecordName). map (λ (e : Done). e.0) so.done ++ n ∷ names_in after) (ap (λ (e : Done). e.0) f.done_is ∙ f.name_is)
        ∙ ap (λ xs. map (λ (e : Done). e.0) so.done ++ name_of first ∷ xs) f.names
        ∙ ap (λ xs. map (λ (e : Done). e.0) so.done ++ xs) takes.1 ∙ so.names;
    moves = moves_more remaining contents g service window ((o1 ++ o2) ++ o3) [] so.done (d ∷ []) old (with_first (IsDone f.account f.standing) after) after
        (moves_to_done limit o1 o2 o3 old here there after first before now tally streak d so takes f)
        (one_move remaining contents g service window [] (d ∷ []) (with_first (IsDone f.account f.standing) after) after (inr (inr (inr (inr (inl (record {
          account = f.account;
          standing = f.standing;
          tracks = with_front (IsDone f.account f.standing) after.tracks;
          opened_none = refl;
          told_is = ap (λ (e : Done). e ∷ []) f.done_is;
          state = refl;
          waiting = refl;
        })))))));
    tells = adds_more before now then so.done (d ∷ []) so.tells told;
    tally_is = counted ∙ ap (λ (t : Tally). tally_with t d.1) so.tally_is ∙ sym (tally_next so.done d);
    streak_is = next_streak streak longer so.done d so.streak_is met;
    never = goes_next limit None so.done d so.never (ap (go_on_after limit) (ap (λ (s : Option Streak). streak_with s d.1) (sym so.streak_is) ∙ sym met) ∙ goes);
  }

  through_end : (limit : ℕ) (o1 o2 : List (Opening I O)) (old here there : Scene I O J) (before now : Option (List Done)) (tally : Tally) (streak : Option Streak)
      → IsThroughSo limit o1 old here before now tally streak → TakesFirst remaining contents g service window o2 here there (Ok None) → IsThrough remaining contents g service window limit (o1 ++ o2) old there before now tally
  through_end limit o1 o2 old here there before now tally streak so (none, same, names, tracks, waiting) = record {
    done = so.done;
    names_are = sym (append-nil (map (λ (e : Done). e.0) so.done)) ∙ ap (λ xs. map (λ (e : Done). e.0) so.done ++ xs) (sym names) ∙ so.names;
    moves = subst (λ (s : Scene I O J). Moves remaining contents g service window (o1 ++ o2) so.done old s) (sym same)
        (subst (λ (o : List (Opening I O)). Moves remaining contents g service window o so.done old here) (sym (append-nil o1) ∙ ap (λ xs. o1 ++ xs) (sym none)) so.moves);
    none = (tracks, waiting);
    tells = so.tells;
    tally_is = so.tally_is;
    never = so.never;
  }

  pub through_all : (limit : ℕ) (o1 o2 : List (Opening I O)) (old here there : Scene I O J) (before now : Option (List Done)) (tally : Tally) (streak : Option Streak) (o : Option (Track I O))
      → o ≡ None → IsThroughSo limit o1 old here before now tally streak → TakesFirst remaining contents g service window o2 here there (Ok o) → IsThrough remaining contents g service window limit (o1 ++ o2) old there before now tally
  through_all limit o1 o2 old here there before now tally streak o none so takes =
      through_end limit o1 o2 old here there before now tally streak so (subst (λ (x : Option (Track I O)). TakesFirst remaining contents g service window o2 here there (Ok x)) none takes)

  pub takes_this : (o2 : List (Opening I O)) (here there : Scene I O J) (o : Option (Track I O)) (first : Track I O) → o ≡ Some first → TakesFirst remaining contents g service window o2 here there (Ok o) → TakesFirst remaining contents g service window o2 here there (Ok (Some first))
  takes_this o2 here there o first is takes = subst (λ (x : Option (Track I O)). TakesFirst remaining contents g service window o2 here there (Ok x)) is takes

  pub fewer_names : (o2 o3 : List (Opening I O)) (here there after : Scene I O J) (first : Track I O) (d : Done)
      → TakesFirst remaining contents g service window o2 here there (Ok (Some first)) → IsFinished remaining contents g service window o3 first there after d → length (names_in after) < length (names_in here)
  fewer_names o2 o3 here there after first d takes f =
      let one : length (name_of first ∷ names_in there) ≡ length (names_in here) = ap length takes.1 in
      let same : length (names_in after) ≡ length (names_in there) = ap length f.names in
      omega (arith, one, same)

  -- ---- a whole run

  pub abreast_all : (limit : ℕ) (names : List RecordName) (opened : List (Opening I O)) (old mid new : State J) (there : Window I O) (before after : Option (List Done)) (tally : Tally) (ts : List (Track I O))
      → ts ≡ [] → IsThrough remaining contents g service window limit opened (scene names ts old) (scene_of there mid) before after tally → LooksThrough remaining g service there.tracks.items mid new
      → AllMoved remaining contents g service window limit names opened old new before after tally
  abreast_all limit names opened old mid new there before after tally ts none t looked =
      let same : new ≡ mid = subst (λ (xs : List (Track I O)). LooksThrough remaining g service xs mid new) t.none.0 looked in
      record {
        done = t.done;
        names_are = t.names_are ∙ ap (λ (xs : List (Track I O)). map name_of xs ++ names) none;
        moves = subst (λ (s : State J). Moves remaining contents g service window opened t.done (at_start names old) (at_start [] s)) (sym same)
            (subst (λ (xs : List (Track I O)). Moves remaining contents g service window opened t.done (scene names xs old) (at_start [] mid)) none
            (subst (λ (xs : List (Track I O)). Moves remaining contents g service window opened t.done (scene names ts old) (scene [] xs mid)) t.none.0
            (subst (λ (w : List RecordName). Moves remaining contents g service window opened t.done (scene names ts old) (scene w there.tracks.items mid)) t.none.1 t.moves)));
        tells = t.tells;
        tally_is = t.tally_is;
        never = t.never;
      }

  pub abreast_part : (limit : ℕ) (names : List RecordName) (opened : List (Opening I O)) (old mid new : State J) (there : Window I O) (fault : RunFault) (ts : List (Track I O))
      → ts ≡ [] → IsBroken limit opened (scene names ts old) (scene_of there mid) fault → LooksThrough remaining g service there.tracks.items mid new
      → PartMoved remaining contents g service window limit names opened old new fault
  abreast_part limit names opened old mid new there fault ts none (told, inl (left, never)) looked = record {
    done = told;
    rest = left.0 ++ there.tracks.items;
    between = left.1;
    breaks = inl (subst (λ (xs : List (Track I O)). Stops remaining contents g service window opened told (scene names xs old) (left.0 ++ there.tracks.items) left.1 fault) none left.2, never);
    looked = looks_more remaining g service left.0 there.tracks.items left.1 mid new left.3 looked;
  }
  abreast_part limit names opened old mid new there fault ts none (told, inr gives) looked = record {
    done = told;
    rest = there.tracks.items;
    between = mid;
    breaks = inr (subst (λ (xs : List (Track I O)). GivesUp remaining contents g service window limit opened told (scene names xs old) there.tracks.items mid fault) none gives);
    looked = looked;
  }

  pub abreast : (limit : ℕ) (names : List RecordName) (opened : List (Opening I O)) (old mid new : State J) (there : Window I O) (before after : Option (List Done)) (result : Result Tally RunFault) (ts : List (Track I O))
      → ts ≡ [] → PushesThrough remaining contents g service window limit opened (scene names ts old) (scene_of there mid) before after result → LooksThrough remaining g service there.tracks.items mid new
      → PushesAbreast remaining contents g service window limit names opened old new before after result
  abreast limit names opened old mid new there before after (Ok tally) ts none t looked = abreast_all limit names opened old mid new there before after tally ts none t looked
  abreast limit names opened old mid new there before after (Err fault) ts none t looked = abreast_part limit names opened old mid new there fault ts none t looked

  pub abreast_none : (limit : ℕ) (names : List RecordName) (old : State J) (before after : Option (List Done)) (fault : RunFault) → 0 < window → fault ≡ Memory → PushesAbreast remaining contents g service window limit names [] old old before after (Err fault)
  abreast_none limit names old before after fault room is = record {
    done = [];
    rest = [];
    between = old;
    breaks = inl (stops_here remaining contents g service window [] (at_start names old) [] old fault (inl (refl, refl, record { room = room; unmade = inr (refl, is); waits = inl refl })), tt);
    looked = refl;
  }

-- ---- the end of a loop

-- at most so many steps are left for a record
abbrev pub steps_left : {I O : Type 0} → Track I O → ℕ
steps_left (UnderWay a f) = 2 + ((most_exchanges - a.exchanges) + (most_exchanges - a.exchanges))
steps_left (Delayed a) = 1 + ((most_exchanges - a.exchanges) + (most_exchanges - a.exchanges))
steps_left (IsDone a standing) = 0

fewer_steps : {I O J : Type 0} (remaining : I → Option (List ℕ)) (contents : O → Option (List ℕ)) (g : Ghosts J) (service : Service) (track : Track I O) (opened : List (Opening I O)) (old new : State J) (a : Account) (f : Flight I O)
    → Advances remaining contents g service track opened old new (Ok (UnderWay a f)) → steps_left (UnderWay a f) < steps_left track
fewer_steps {I} {O} remaining contents g service (UnderWay b e) opened old new a f (inl c) =
    let left : b.exchanges < most_exchanges = c.goes_on.left in
    let counts : a.exchanges ≡ b.exchanges + 1 = ap (λ (x : Account). x.exchanges) c.goes_on.later_is in
    omega (arith, left, counts)
fewer_steps remaining contents g service (UnderWay b e) opened old new a f (inr (inl d)) =
    let is = d.result_is in absurd (cc)
fewer_steps remaining contents g service (UnderWay b e) opened old new a f (inr (inr ends)) =
    let is = ends.3 in absurd (cc)
fewer_steps {I} {O} remaining contents g service (Delayed b) opened old new a f (same, s) =
    let left : b.exchanges < most_exchanges = s.left in
    let counts : a.exchanges ≡ b.exchanges + 1 = ap (λ (x : Account). x.exchanges) s.later_is in
    omega (arith, left, counts)
fewer_steps remaining contents g service (IsDone b standing) opened old new a f (none, same, is) = absurd (cc)

fewer_delayed : {I O J : Type 0} (remaining : I → Option (List ℕ)) (contents : O → Option (List ℕ)) (g : Ghosts J) (service : Service) (track : Track I O) (opened : List (Opening I O)) (old new : State J) (a : Account)
    → Advances remaining contents g service track opened old new (Ok (Delayed a)) → steps_left {I = I} {O = O} (Delayed a) < steps_left track
fewer_delayed remaining contents g service (UnderWay b e) opened old new a (inl c) = absurd c.goes_on
fewer_delayed {I} {O} remaining contents g service (UnderWay b e) opened old new a (inr (inl d)) =
    let counts : a.exchanges ≡ b.exchanges = ap exchanges_in d.result_is in
    omega (arith, counts)
  where
    exchanges_in : Result (Track I O) RunFault → ℕ
    exchanges_in (Ok (UnderWay x f)) = x.exchanges
    exchanges_in (Ok (Delayed x)) = x.exchanges
    exchanges_in (Ok (IsDone x standing)) = x.exchanges
    exchanges_in (Err fault) = 0
fewer_delayed remaining contents g service (UnderWay b e) opened old new a (inr (inr ends)) =
    let is = ends.3 in absurd (cc)
fewer_delayed remaining contents g service (Delayed b) opened old new a (same, goes) = absurd goes
fewer_delayed remaining contents g service (IsDone b standing) opened old new a (none, same, is) = absurd (cc)

-- a step, or a turn less
pub fewer_left : {I O J : Type 0} (remaining : I → Option (List ℕ)) (contents : O → Option (List ℕ)) (g : Ghosts J) (service : Service) (turns left : ℕ) (track first : Track I O) (opened : List (Opening I O)) (old new : State J) (later last : Track I O)
    → first ≡ track → last ≡ later → ((a : Account) (standing : Standing) → later ≡ IsDone a standing → ⊥) → StepsWithin remaining contents g service turns first opened old new (Ok (later, left))
    → steps_left last + left < steps_left track + turns
fewer_left {I} {O} remaining contents g service turns left track first opened old new later last same is not steps =
    subst (λ (t : Track I O). steps_left last + left < steps_left t + turns) same
    (subst (λ (t : Track I O). steps_left t + left < steps_left first + turns) (sym is) (either steps))
  where
    go : (t : Track I O) → ((a : Account) (standing : Standing) → t ≡ IsDone a standing → ⊥) → Advances remaining contents g service first opened old new (Ok t) → steps_left t < steps_left first
    go (UnderWay a f) not advances = fewer_steps remaining contents g service first opened old new a f advances
    go (Delayed a) not advances = fewer_delayed remaining contents g service first opened old new a advances
    go (IsDone a standing) not advances = absurd (not a standing refl)

    either : StepsWithin remaining contents g service turns first opened old new (Ok (later, left)) → steps_left later + left < steps_left first + turns
    either (inl (advances, none)) =
        let fewer : steps_left later < steps_left first = go later not advances in
        omega (arith, fewer, none)
    either (inr ((none, still, stays), less)) =
        let later_is : later ≡ first = cc in
        let equal : steps_left later ≡ steps_left first = ap steps_left later_is in
        omega (arith, equal, less)

-- a record that was given back is the same
pub kept_is : {I O J : Type 0} (remaining : I → Option (List ℕ)) (g : Ghosts J) (service : Service) (first later : Track I O) (beside : Result (Unit {0}) RunFault) (old new : State J) → KeepsTrack remaining g service first beside old new (Ok later) → later ≡ first
kept_is remaining g service first later (Ok ok) old new (same, is) = cc
kept_is remaining g service first later (Err fault) old new (closed, closes, is) = absurd (cc)

-- ---- looking through

abbrev pub Looked : {I O J : Type 0} → (I → Option (List ℕ)) → Ghosts J → Service → (all ts : List (Track I O)) → (old here : State J) → Type 0
Looked {I} {O} remaining g service all ts old here = (front : List (Track I O)) × (all ≡ front ++ ts) × LooksThrough remaining g service front old here

looks_push : {I O J : Type 0} (remaining : I → Option (List ℕ)) (g : Ghosts J) (service : Service) (front : List (Track I O)) (track : Track I O) (closed : Result (Unit {0}) RunFault) (old here new : State J)
    → LooksThrough remaining g service front old here → Closes remaining g service track here new closed → LooksThrough remaining g service (front ++ track ∷ []) old new
looks_push {J = J} remaining g service [] track closed old here new looked closes = (closed, new, subst (λ (s : State J). Closes remaining g service track s new closed) looked closes, refl)
looks_push remaining g service (first ∷ front) track closed old here new looked closes = (looked.0, looked.1, looked.2, looks_push remaining g service front track closed looked.1 here new looked.3 closes)

pub looked_next : {I O J : Type 0} (remaining : I → Option (List ℕ)) (g : Ghosts J) (service : Service) (all ts others front : List (Track I O)) (track : Track I O) (closed : Result (Unit {0}) RunFault) (old here new : State J)
    → all ≡ front ++ ts → ts ≡ track ∷ others → LooksThrough remaining g service front old here → Closes remaining g service track here new closed → Looked remaining g service all others old new
looked_next remaining g service all ts others front track closed old here new split is looked closes =
    (front ++ track ∷ [], split ∙ ap (λ xs. front ++ xs) is ∙ sym (append_assoc front (track ∷ []) others), looks_push remaining g service front track closed old here new looked closes)

pub looked_all : {I O J : Type 0} (remaining : I → Option (List ℕ)) (g : Ghosts J) (service : Service) (all ts front : List (Track I O)) (old here : State J)
    → all ≡ front ++ ts → ts ≡ drop 1 ts → LooksThrough remaining g service front old here → LooksThrough remaining g service all old here
looked_all {I} {O} remaining g service all ts front old here split none looked =
    let all_is : all ≡ front = split ∙ ap (λ xs. front ++ xs) (none_left ts none) ∙ append-nil front in
    subst (λ (xs : List (Track I O)). LooksThrough remaining g service xs old here) (sym all_is) looked
