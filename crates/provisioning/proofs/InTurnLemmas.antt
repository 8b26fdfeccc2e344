-- A window of one record: one record after another.
use Rattle.std.proofs.Common.{◌≡◌, ◌⊎◌, ◌+◌, ◌<◌, ◌≤◌, ℕ, zero, suc, Bool, List, [], ◌∷◌, ◌++◌, map, length, Option, None, Result, Ok, Err, inl, inr, refl, ap, sym, ◌∙◌, subst, length-append, append_assoc, append-nil, arith}
use Rattle.std.proofs.lemmas.List.{map_push, take-append-drop}
use Rattle.std.specs.List.{prefix_len}
use Rattle.std.specs.Option.{option_or}
use Rattle.scim_key.specs.declared.records.RecordName.{RecordName}
use Rattle.journal_core.specs.declared.journals.Journal.{Ghosts}
use Rattle.connector_core.specs.Book.{Book}
use Rattle.connector_core.specs.Maps.{book_of}
use Rattle.connector_core.specs.State.{State}
use Rattle.provisioning.proofs.AskedLemmas.{asked_of}
use Rattle.provisioning.proofs.RunLemmas.{all_then, done_more, part_before, part_then}
use Rattle.provisioning.proofs.TurnLemmas.{IsSoFar, exchange_more, none_so_far, so_ends, so_pushed}
use Rattle.provisioning.proofs.WindowLemmas.{begun_name, is_empty}
use Rattle.provisioning.specs.Abreast.{PushesAllAbreast, PushesBoth, groups_of, is_user, joined, users_of}
use Rattle.provisioning.specs.Exchanges.{Came, Exchange, IsExchange, IsUnmade, answer_in}
use Rattle.provisioning.specs.Openings.{Opening}
use Rattle.provisioning.specs.Paces.{OneStreamIsInTurn, PushesInTurn}
use Rattle.provisioning.specs.Records.{EndsRun, IsPushed, Stands, most_exchanges}
use Rattle.provisioning.specs.Runs.{AllDone, AreDone, Done, IsUntold, PartDone, PushesEach, streak_of}
use Rattle.provisioning.specs.Services.{Service}
use Rattle.provisioning.specs.Streaks.{IsGivenUp}
use Rattle.provisioning.specs.Tracks.{Advances, Begins, IsLearnt, SetsOut, StandsAt, faulted, fresh, put_off}
use Rattle.provisioning.specs.Windows.{AllMoved, AreMoves, Breaks, Causes, IsBegun, IsContinued, IsDelayed, IsMove, IsMoved, IsReported, IsResumed, IsWith, LooksThrough, PartMoved, Point, PushesAbreast, Scene, at_start, done_of, name_of, names_in, window_of}
use Rattle.provisioning.specs.declared.faults.RecordFault.{RecordFault}
use Rattle.provisioning.specs.declared.faults.RunFault.{RunFault}
use Rattle.provisioning.specs.declared.pushing.Tally.{Tally}
use Rattle.provisioning.specs.declared.records.Standing.{Standing}
use Rattle.provisioning.specs.declared.tracks.Account.{Account}
use Rattle.provisioning.specs.declared.tracks.Flight.{Flight}
use Rattle.provisioning.specs.declared.tracks.Track.{Track}
use Rattle.provisioning.specs.declared.tracks.Track.TheVariants.{UnderWay, Delayed, Done as IsDone}

-- ---- lists of one

alone : {X : Type 0} (x : X) (others all : List X) → IsWith x others all → length all < 2 → (all ≡ x ∷ []) × (others ≡ [])
alone {X} x others all (front, back, all_are, others_are) less = go front back all_are others_are
  where
    go : (front back : List X) → all ≡ front ++ x ∷ back → others ≡ front ++ back → (all ≡ x ∷ []) × (others ≡ [])
    go [] [] a o = (a, o)
    go [] (y ∷ back) a o =
        let count : length all ≡ suc (suc (length back)) = ap length a in
        absurd (omega (arith, less, count))
    go (y ∷ front) back a o =
        let count : length all ≡ suc (length (front ++ x ∷ back)) = ap length a in
        let more : length (front ++ x ∷ back) ≡ length front + suc (length back) = length-append front (x ∷ back) in
        absurd (omega (arith, less, count, more))

only_one : {X : Type 0} (x : X) (others all : List X) → IsWith x others all → others ≡ [] → all ≡ x ∷ []
only_one {X} x others all (front, back, all_are, others_are) none = go front back all_are (sym none ∙ others_are)
  where
    go : (front back : List X) → all ≡ front ++ x ∷ back → [] ≡ front ++ back → all ≡ x ∷ []
    go [] [] a none = a
    go [] (y ∷ back) a none = absurd (cc)
    go (y ∷ front) back a none = absurd (cc)

none_added : {X : Type 0} (xs more : List X) → more ≡ [] → xs ++ more ≡ xs
none_added xs more none = ap (λ ys. xs ++ ys) none ∙ append-nil xs

stands_at : (service : Service) (book : Book) (a : Account) (standing : Standing) → a.exchanges ≤ most_exchanges → StandsAt service book a standing → Stands service.is_versioned book a.name a.exchanges a.last standing
stands_at service book a standing most (inl rests) = inl rests
stands_at service book a standing most (inr s) = inr (record {
  at_end = elim s.at_end [
    | inl all ↦ inl (omega (arith, most, all))
    | inr held ↦ inr held
  ];
  unconfirmed = s.unconfirmed;
  last_is = s.last_is;
})

-- ---- one record

module _ {I O J : Type 0} (remaining : I → Option (List ℕ)) (contents : O → Option (List ℕ)) (g : Ghosts J) (service : Service) (limit : ℕ) where
  abbrev SoFar : RecordName → (opened : List (Opening I O)) → (old new : State J) → (count : ℕ) → (last : Option RecordFault) → Type 0
  SoFar name opened old new count last = IsSoFar remaining contents g service name opened old new count last

  abbrev Pushed : Account → Standing → (opened : List (Opening I O)) → (old new : State J) → Type 0
  Pushed a standing opened old new = IsPushed remaining contents g service a.name opened old new (record { exchanges = a.exchanges; standing = standing })

  -- its exchanges so far, and the last one is under way
  record IsFlying (a : Account) (f : Flight I O) (opened : List (Opening I O)) (old new : State J) : Type 0 where
    pub before : Account
    pub first : List (Opening I O)
    pub last : List (Opening I O)
    pub so : SoFar before.name first old new before.exchanges before.last
    pub sets : SetsOut contents service before last (book_of new.book) a f
    pub opened_are : opened ≡ first ++ last

  abbrev IsAt : Track I O → (opened : List (Opening I O)) → (old new : State J) → Type 0
  IsAt (UnderWay a f) opened old new = IsFlying a f opened old new
  IsAt (Delayed a) opened old new = SoFar a.name opened old new a.exchanges a.last
  IsAt (IsDone a standing) opened old new = Pushed a standing opened old new

  begun_so : (a : Account) (first last : List (Opening I O)) (old new : State J) (track : Track I O) → SoFar a.name first old new a.exchanges a.last
      → Begins contents service a last (book_of new.book) track → IsAt track (first ++ last) old new
  begun_so a first last old new (UnderWay later f) so sets = record { before = a; first = first; last = last; so = so; sets = sets; opened_are = refl }
  begun_so a first last old new (Delayed later) so begins = absurd begins
  begun_so a first last old new (IsDone later standing) so (none, same, stands) =
      subst (λ (x : Account). Pushed x standing (first ++ last) old new) (sym same)
      (subst (λ (l : List (Opening I O)). Pushed a standing l old new) (sym (none_added first last none))
      (so_pushed remaining contents g service a.name first old new a.exchanges a.last standing so (stands_at service (book_of new.book) a standing so.most stands)))

  abbrev exchange_of : Flight I O → I × O → Came → Exchange I O
  exchange_of f stream came = record { request = f.request; reader = stream.0; writer = stream.1; came = came }

  flown : (a : Account) (f : Flight I O) (opened : List (Opening I O)) (old here new : State J) (result : Result (Option RecordFault) RunFault)
      → (fl : IsFlying a f opened old here) → (l : IsLearnt remaining g service f here new result) → IsExchange remaining contents g service fl.before.name (exchange_of f fl.sets.stream l.came) here new
  flown a f opened old here new result fl l = record {
    asked = fl.sets.asked;
    sent = asked_of remaining contents service f fl.sets.stream fl.sets.set_out (answer_in l.came) l.heard;
    becomes = l.becomes;
  }

  heard_so : (a : Account) (f : Flight I O) (opened : List (Opening I O)) (old here new : State J) (fault : Option RecordFault)
      → IsFlying a f opened old here → IsLearnt remaining g service f here new (Ok fault) → SoFar a.name opened old new a.exchanges (option_or fault a.last)
  heard_so a f opened old here new fault fl l =
      subst (λ (x : Account). SoFar x.name opened old new x.exchanges (option_or fault x.last)) (sym fl.sets.later_is)
      (subst (λ (o : List (Opening I O)). SoFar fl.before.name o old new (fl.before.exchanges + 1) (option_or fault fl.before.last)) (sym fl.opened_are)
      (exchange_more remaining contents g service fl.before.name fl.first fl.last old here new fl.before.exchanges fl.before.last fault (exchange_of f fl.sets.stream l.came)
      fl.so fl.sets.left fl.sets.opened_are (flown a f opened old here new (Ok fault) fl l) (sym l.result_is)))

  stopped_so : (track : Track I O) (opened last : List (Opening I O)) (old here new : State J) (fault : RunFault) → IsAt track opened old here
      → Advances remaining contents g service track last here new (Err fault) → EndsRun remaining contents g service (name_of track) (opened ++ last) old new fault
  stopped_so (UnderWay a f) opened last old here new fault fl (inl c) =
      so_ends remaining contents g service a.name opened last old new new a.exchanges (option_or c.fault a.last) fault (heard_so a f opened old here new c.fault fl c.learnt) c.goes_on.0 (inr (refl, c.goes_on.1))
  stopped_so (UnderWay a f) opened last old here new fault fl (inr (inl d)) =
      let is = d.result_is in absurd (cc)
  stopped_so (Delayed a) opened last old here new fault so (same, goes) =
      so_ends remaining contents g service a.name opened last old here new a.exchanges a.last fault so goes.0 (inr (same, goes.1))
  stopped_so (UnderWay a f) opened last old here new fault fl (inr (inr (end, l, none, is))) =
      let same : fault ≡ end = cc in
      subst (λ (n : RecordName). EndsRun remaining contents g service n (opened ++ last) old new fault) (sym (ap (λ (x : Account). x.name) fl.sets.later_is))
      (subst (λ (o : List (Opening I O)). EndsRun remaining contents g service fl.before.name o old new fault) (sym (none_added opened last none ∙ fl.opened_are))
      (so_ends remaining contents g service fl.before.name fl.first fl.last old here new fl.before.exchanges fl.before.last fault fl.so fl.sets.left
      (inl (exchange_of f fl.sets.stream l.came, fl.sets.opened_are, flown a f opened old here new (Err end) fl l, sym l.result_is ∙ ap Err (sym same)))))
  stopped_so (IsDone a standing) opened last old here new fault pushed (none, same, is) = absurd (cc)

  -- ---- at most one record was begun and isn't reported

  abbrev AreAt : List (Track I O) → (opened : List (Opening I O)) → (old new : State J) → Type 0
  AreAt [] opened old new = (opened ≡ []) × (new ≡ old)
  AreAt (t ∷ []) opened old new = IsAt t opened old new
  AreAt (t ∷ u ∷ ts) opened old new = ⊥

  at_most_one : (tracks : List (Track I O)) (opened : List (Opening I O)) (old new : State J) → AreAt tracks opened old new → length tracks < 2
  at_most_one [] opened old new at = omega arith
  at_most_one (t ∷ []) opened old new at = omega arith
  at_most_one (t ∷ u ∷ ts) opened old new at = absurd at

  the_one : (x : Track I O) (others tracks : List (Track I O)) (opened : List (Opening I O)) (old new : State J) → IsWith x others tracks → AreAt tracks opened old new
      → (tracks ≡ x ∷ []) × (others ≡ []) × IsAt x opened old new
  the_one x others tracks opened old new with at =
      let one = alone x others tracks with (at_most_one tracks opened old new at) in
      (one.0, one.1, subst (λ (ts : List (Track I O)). AreAt ts opened old new) one.0 at)

  -- these records are done, and at most one more is under way
  record IsInTurn (names : List RecordName) (done : List Done) (opened : List (Opening I O)) (old : State J) (scene : Scene I O J) : Type 0 where
    pub first : List (Opening I O)
    pub last : List (Opening I O)
    pub between : State J
    pub opened_are : opened ≡ first ++ last
    pub are : AreDone remaining contents g service done first old between
    pub at : AreAt scene.tracks last between scene.state
    pub names_are : names ≡ map (λ d. d.0) done ++ names_in scene

  abbrev told_names : List Done → List RecordName
  told_names done = map (λ (d : Done). d.0) done

  abbrev names_with : List RecordName → List (Track I O) → List RecordName
  names_with waiting tracks = map name_of tracks ++ waiting

  started : (names : List RecordName) (old : State J) → IsInTurn names [] [] old (at_start names old)
  started names old = record { first = []; last = []; between = old; opened_are = refl; are = (refl, refl); at = (refl, refl); names_are = refl }

  -- ---- one move

  begun_turn : (names : List RecordName) (done told : List Done) (before opened : List (Opening I O)) (old : State J) (scene new : Scene I O J)
      → IsInTurn names done before old scene → IsBegun remaining contents g service 1 opened told scene new → IsInTurn names (done ++ told) (before ++ opened) old new
  begun_turn names done told before opened old scene new p b =
      let none : scene.tracks ≡ [] = is_empty scene.tracks (omega (arith, b.room)) in
      let here : (p.last ≡ []) × (scene.state ≡ p.between) = subst (λ (ts : List (Track I O)). AreAt ts p.last p.between scene.state) none p.at in
      let one : new.tracks ≡ b.track ∷ [] = only_one b.track scene.tracks new.tracks b.tracks none in
      let named : name_of b.track ≡ b.name = begun_name remaining contents g service 1 (fresh b.name) opened (book_of scene.state.book) b.track b.begins in
      let quiet : done ++ told ≡ done = none_added done told b.told_none in
      record {
        first = p.first;
        last = opened;
        between = p.between;
        opened_are = ap (λ xs. xs ++ opened) (p.opened_are ∙ none_added p.first p.last here.0);
        are = subst (λ (ds : List Done). AreDone remaining contents g service ds p.first old p.between) (sym quiet) p.are;
        at = subst (λ (ts : List (Track I O)). AreAt ts opened p.between new.state) (sym one)
            (begun_so (fresh b.name) [] opened p.between new.state b.track
            (subst (λ (s : State J). SoFar b.name [] p.between s 0 None) (sym (b.state ∙ here.1)) (none_so_far remaining contents g service b.name p.between))
            (subst (λ (s : State J). Begins contents service (fresh b.name) opened (book_of s.book) b.track) (sym b.state) b.begins));
        names_are = p.names_are
            ∙ ap (λ xs. told_names done ++ xs) (ap (names_with scene.waiting) none ∙ b.waiting ∙ ap (λ (n : RecordName). n ∷ new.waiting) (sym named) ∙ ap (names_with new.waiting) (sym one))
            ∙ ap (λ (ds : List Done). told_names ds ++ names_in new) (sym quiet);
      }

  continued_turn : (names : List RecordName) (done told : List Done) (before opened : List (Opening I O)) (old : State J) (scene new : Scene I O J)
      → IsInTurn names done before old scene → IsContinued remaining contents g service 1 opened told scene new → IsInTurn names (done ++ told) (before ++ opened) old new
  continued_turn names done told before opened old scene new p c =
      let here = the_one (UnderWay c.account c.flight) c.others scene.tracks p.last p.between scene.state c.before p.at in
      let one : new.tracks ≡ c.track ∷ [] = only_one c.track c.others new.tracks c.after here.1 in
      let named : name_of c.track ≡ c.account.name = begun_name remaining contents g service 1 (faulted c.fault c.account) opened (book_of new.state.book) c.track c.begins in
      let quiet : done ++ told ≡ done = none_added done told c.told_none in
      record {
        first = p.first;
        last = p.last ++ opened;
        between = p.between;
        opened_are = ap (λ xs. xs ++ opened) p.opened_are ∙ append_assoc p.first p.last opened;
        are = subst (λ (ds : List Done). AreDone remaining contents g service ds p.first old p.between) (sym quiet) p.are;
        at = subst (λ (ts : List (Track I O)). AreAt ts (p.last ++ opened) p.between new.state) (sym one)
            (begun_so (faulted c.fault c.account) p.last opened p.between new.state c.track (heard_so c.account c.flight p.last p.between scene.state new.state c.fault here.2 c.learnt) c.begins);
        names_are = p.names_are
            ∙ ap (λ xs. told_names done ++ xs) (ap (names_with scene.waiting) here.0 ∙ ap (λ xs. c.account.name ∷ xs) (sym c.waiting) ∙ ap (λ (n : RecordName). n ∷ new.waiting) (sym named) ∙ ap (names_with new.waiting) (sym one))
            ∙ ap (λ (ds : List Done). told_names ds ++ names_in new) (sym quiet);
      }

  delayed_turn : (names : List RecordName) (done told : List Done) (before opened : List (Opening I O)) (old : State J) (scene new : Scene I O J)
      → IsInTurn names done before old scene → IsDelayed remaining contents g service 1 opened told scene new → IsInTurn names (done ++ told) (before ++ opened) old new
  delayed_turn names done told before opened old scene new p d =
      let here = the_one (UnderWay d.account d.flight) d.others scene.tracks p.last p.between scene.state d.before p.at in
      let one : new.tracks ≡ Delayed (put_off (faulted d.fault d.account)) ∷ [] = only_one (Delayed (put_off (faulted d.fault d.account))) d.others new.tracks d.after here.1 in
      let quiet : done ++ told ≡ done = none_added done told d.told_none in
      record {
        first = p.first;
        last = p.last;
        between = p.between;
        opened_are = none_added before opened d.opened_none ∙ p.opened_are;
        are = subst (λ (ds : List Done). AreDone remaining contents g service ds p.first old p.between) (sym quiet) p.are;
        at = subst (λ (ts : List (Track I O)). AreAt ts p.last p.between new.state) (sym one)
            (heard_so d.account d.flight p.last p.between scene.state new.state d.fault here.2 d.learnt);
        names_are = p.names_are
            ∙ ap (λ xs. told_names done ++ xs) (ap (names_with scene.waiting) here.0 ∙ ap (λ xs. d.account.name ∷ xs) (sym d.waiting) ∙ ap (names_with new.waiting) (sym one))
            ∙ ap (λ (ds : List Done). told_names ds ++ names_in new) (sym quiet);
      }

  resumed_turn : (names : List RecordName) (done told : List Done) (before opened : List (Opening I O)) (old : State J) (scene new : Scene I O J)
      → IsInTurn names done before old scene → IsResumed remaining contents g service 1 opened told scene new → IsInTurn names (done ++ told) (before ++ opened) old new
  resumed_turn names done told before opened old scene new p r =
      let here = the_one (Delayed r.account) r.others scene.tracks p.last p.between scene.state r.before p.at in
      let one : new.tracks ≡ r.track ∷ [] = only_one r.track r.others new.tracks r.after here.1 in
      let named : name_of r.track ≡ r.account.name = begun_name remaining contents g service 1 r.account opened (book_of scene.state.book) r.track r.begins in
      let quiet : done ++ told ≡ done = none_added done told r.told_none in
      record {
        first = p.first;
        last = p.last ++ opened;
        between = p.between;
        opened_are = ap (λ xs. xs ++ opened) p.opened_are ∙ append_assoc p.first p.last opened;
        are = subst (λ (ds : List Done). AreDone remaining contents g service ds p.first old p.between) (sym quiet) p.are;
        at = subst (λ (ts : List (Track I O)). AreAt ts (p.last ++ opened) p.between new.state) (sym one)
            (subst (λ (s : State J). IsAt r.track (p.last ++ opened) p.between s) (sym r.state)
            (begun_so r.account p.last opened p.between scene.state r.track here.2 r.begins));
        names_are = p.names_are
            ∙ ap (λ xs. told_names done ++ xs) (ap (names_with scene.waiting) here.0 ∙ ap (λ xs. r.account.name ∷ xs) (sym r.waiting) ∙ ap (λ (n : RecordName). n ∷ new.waiting) (sym named) ∙ ap (names_with new.waiting) (sym one))
            ∙ ap (λ (ds : List Done). told_names ds ++ names_in new) (sym quiet);
      }

  reported_turn : (names : List RecordName) (done told : List Done) (before opened : List (Opening I O)) (old : State J) (scene new : Scene I O J)
      → IsInTurn names done before old scene → IsReported remaining contents g service 1 opened told scene new → IsInTurn names (done ++ told) (before ++ opened) old new
  reported_turn names done told before opened old scene new p r =
      let d = done_of r.account r.standing in
      let here = the_one (IsDone r.account r.standing) new.tracks scene.tracks p.last p.between scene.state r.tracks p.at in
      record {
        first = p.first ++ p.last;
        last = [];
        between = new.state;
        opened_are = none_added before opened r.opened_none ∙ p.opened_are ∙ sym (append-nil (p.first ++ p.last));
        are = subst (λ (ds : List Done). AreDone remaining contents g service (done ++ ds) (p.first ++ p.last) old new.state) (sym r.told_is)
            (subst (λ (s : State J). AreDone remaining contents g service (done ++ d ∷ []) (p.first ++ p.last) old s) (sym r.state)
            (done_more remaining contents g service done d p.first p.last old p.between scene.state p.are here.2));
        at = subst (λ (ts : List (Track I O)). AreAt ts [] new.state new.state) (sym here.1) (refl, refl);
        names_are = p.names_are
            ∙ ap (λ xs. told_names done ++ xs) (ap (names_with scene.waiting) here.0)
            ∙ sym (append_assoc (told_names done) (r.account.name ∷ []) scene.waiting)
            ∙ ap (λ xs. xs ++ scene.waiting) (sym (map_push (λ (e : Done). e.0) done d))
            ∙ ap (λ (ds : List Done). told_names (done ++ ds) ++ scene.waiting) (sym r.told_is)
            ∙ ap (λ xs. told_names (done ++ told) ++ xs) (sym r.waiting ∙ ap (names_with new.waiting) (sym here.1));
      }

  moved_turn : (names : List RecordName) (done told : List Done) (before opened : List (Opening I O)) (old : State J) (scene new : Scene I O J)
      → IsInTurn names done before old scene → IsMoved remaining contents g service 1 opened told scene new → IsInTurn names (done ++ told) (before ++ opened) old new
  moved_turn names done told before opened old scene new p m =
      let here = the_one m.track m.others scene.tracks p.last p.between scene.state m.before p.at in
      let same : scene.tracks ≡ new.tracks = here.0 ∙ sym (only_one m.track m.others new.tracks m.after here.1) in
      let quiet : done ++ told ≡ done = none_added done told m.told_none in
      record {
        first = p.first;
        last = p.last;
        between = p.between;
        opened_are = none_added before opened m.opened_none ∙ p.opened_are;
        are = subst (λ (ds : List Done). AreDone remaining contents g service ds p.first old p.between) (sym quiet) p.are;
        at = subst (λ (ts : List (Track I O)). AreAt ts p.last p.between new.state) same (subst (λ (s : State J). AreAt scene.tracks p.last p.between s) (sym m.state) p.at);
        names_are = p.names_are
            ∙ ap (λ xs. told_names done ++ xs) (ap (names_with scene.waiting) same ∙ ap (λ xs. map name_of new.tracks ++ xs) (sym m.waiting))
            ∙ ap (λ (ds : List Done). told_names ds ++ names_in new) (sym quiet);
      }

  move_turn : (names : List RecordName) (done told : List Done) (before opened : List (Opening I O)) (old : State J) (scene new : Scene I O J)
      → IsInTurn names done before old scene → IsMove remaining contents g service 1 opened told scene new → IsInTurn names (done ++ told) (before ++ opened) old new
  move_turn names done told before opened old scene new p (inl b) = begun_turn names done told before opened old scene new p b
  move_turn names done told before opened old scene new p (inr (inl c)) = continued_turn names done told before opened old scene new p c
  move_turn names done told before opened old scene new p (inr (inr (inl d))) = delayed_turn names done told before opened old scene new p d
  move_turn names done told before opened old scene new p (inr (inr (inr (inl r)))) = resumed_turn names done told before opened old scene new p r
  move_turn names done told before opened old scene new p (inr (inr (inr (inr (inl r))))) = reported_turn names done told before opened old scene new p r
  move_turn names done told before opened old scene new p (inr (inr (inr (inr (inr m))))) = moved_turn names done told before opened old scene new p m

  moves_turn : (ps : List (Point I O J)) (names : List RecordName) (done told : List Done) (before opened : List (Opening I O)) (old : State J) (scene new : Scene I O J)
      → IsInTurn names done before old scene → AreMoves remaining contents g service 1 ps opened told scene new → IsInTurn names (done ++ told) (before ++ opened) old new
  moves_turn [] names done told before opened old scene new p (none, quiet, same) =
      subst (λ (s : Scene I O J). IsInTurn names (done ++ told) (before ++ opened) old s) (sym same)
      (subst (λ (o : List (Opening I O)). IsInTurn names (done ++ told) o old scene) (sym (none_added before opened none))
      (subst (λ (ds : List Done). IsInTurn names ds before old scene) (sym (none_added done told quiet)) p))
  moves_turn (q ∷ ps) names done told before opened old scene new p m =
      let one = move_turn names done q.told before q.opened old scene q.scene p m.4 in
      let all = moves_turn ps names (done ++ q.told) m.1 (before ++ q.opened) m.0 old q.scene new one m.5 in
      subst (λ (ds : List Done). IsInTurn names ds (before ++ opened) old new) (append_assoc done q.told m.1 ∙ ap (λ xs. done ++ xs) (sym m.3))
      (subst (λ (o : List (Opening I O)). IsInTurn names ((done ++ q.told) ++ m.1) o old new) (append_assoc before q.opened m.0 ∙ ap (λ xs. before ++ xs) (sym m.2)) all)

  -- ---- what ends a run

  unbegun_part : (names : List RecordName) (done : List Done) (first last : List (Opening I O)) (old : State J) (scene : Scene I O J) (rest : List (Track I O)) (mid new : State J) (fault : RunFault)
      → IsInTurn names done first old scene → (rest ≡ scene.tracks) → (mid ≡ scene.state) → length scene.tracks < 1 → IsUnmade last fault
      → (last ≡ []) ⊎ ((name : RecordName) × (later : List RecordName) × (scene.waiting ≡ name ∷ later)) → LooksThrough remaining g service rest mid new
      → PartDone remaining contents g service limit names (first ++ last) old new fault
  unbegun_part names done first last old scene rest mid new fault p left same room unmade waits looked =
      let none : scene.tracks ≡ [] = is_empty scene.tracks (omega (arith, room)) in
      let here : (p.last ≡ []) × (scene.state ≡ p.between) = subst (λ (ts : List (Track I O)). AreAt ts p.last p.between scene.state) none p.at in
      let still : new ≡ mid = subst (λ (ts : List (Track I O)). LooksThrough remaining g service ts mid new) (left ∙ none) looked in
      go unmade waits (still ∙ same ∙ here.1) (ap (λ xs. xs ++ last) (p.opened_are ∙ none_added p.first p.last here.0)) (ap (names_with scene.waiting) none)
    where
      go : IsUnmade last fault → (last ≡ []) ⊎ ((name : RecordName) × (later : List RecordName) × (scene.waiting ≡ name ∷ later)) → new ≡ p.between → first ++ last ≡ p.first ++ last
          → names_in scene ≡ scene.waiting → PartDone remaining contents g service limit names (first ++ last) old new fault
      go (inr (none, memory)) waits still opened_are waiting = record {
        done = done;
        rest = names_in scene;
        first = p.first;
        last = last;
        between = p.between;
        names_are = p.names_are;
        opened_are = opened_are;
        are = p.are;
        ends = inr (none, still, inl (inr memory));
      }
      go (inl (error, one, is)) (inl none) still opened_are waiting = absurd (cc)
      go (inl (error, one, is)) (inr (name, later, waits)) still opened_are waiting = record {
        done = done;
        rest = name ∷ later;
        first = p.first;
        last = last;
        between = p.between;
        names_are = p.names_are ∙ ap (λ xs. told_names done ++ xs) (waiting ∙ waits);
        opened_are = opened_are;
        are = p.are;
        ends = inl (so_ends remaining contents g service name [] last p.between p.between new 0 None fault (none_so_far remaining contents g service name p.between) (omega arith) (inr (still, inl (error, one, is))));
      }

  reported_part : (names : List RecordName) (done : List Done) (first last : List (Opening I O)) (old : State J) (scene : Scene I O J) (rest : List (Track I O)) (mid new : State J) (fault : RunFault) (a : Account) (standing : Standing)
      → IsInTurn names done first old scene → IsWith (IsDone a standing) rest scene.tracks → last ≡ [] → mid ≡ scene.state → IsUntold fault ⊎ IsGivenUp limit fault → LooksThrough remaining g service rest mid new
      → PartDone remaining contents g service limit names (first ++ last) old new fault
  reported_part names done first last old scene rest mid new fault a standing p with none same end looked =
      let d = done_of a standing in
      let here = the_one (IsDone a standing) rest scene.tracks p.last p.between scene.state with p.at in
      let still : new ≡ mid = subst (λ (ts : List (Track I O)). LooksThrough remaining g service ts mid new) here.1 looked in
      record {
        done = done ++ d ∷ [];
        rest = scene.waiting;
        first = p.first ++ p.last;
        last = last;
        between = scene.state;
        names_are = p.names_are
            ∙ ap (λ xs. told_names done ++ xs) (ap (names_with scene.waiting) here.0)
            ∙ sym (append_assoc (told_names done) (a.name ∷ []) scene.waiting)
            ∙ ap (λ xs. xs ++ scene.waiting) (sym (map_push (λ (e : Done). e.0) done d));
        opened_are = ap (λ xs. xs ++ last) p.opened_are;
        are = done_more remaining contents g service done d p.first p.last old p.between scene.state p.are here.2;
        ends = inr (none, still ∙ same, end);
      }

  caused_part : (names : List RecordName) (done : List Done) (first last : List (Opening I O)) (old : State J) (scene : Scene I O J) (rest : List (Track I O)) (mid new : State J) (fault : RunFault)
      → IsInTurn names done first old scene → Causes remaining contents g service 1 last scene rest mid fault → LooksThrough remaining g service rest mid new
      → PartDone remaining contents g service limit names (first ++ last) old new fault
  caused_part names done first last old scene rest mid new fault p (inl (left, same, u)) looked =
      unbegun_part names done first last old scene rest mid new fault p left same u.room u.unmade u.waits looked
  caused_part names done first last old scene rest mid new fault p (inr (inl (track, with, advances))) looked =
      let here = the_one track rest scene.tracks p.last p.between scene.state with p.at in
      let still : new ≡ mid = subst (λ (ts : List (Track I O)). LooksThrough remaining g service ts mid new) here.1 looked in
      record {
        done = done;
        rest = name_of track ∷ scene.waiting;
        first = p.first;
        last = p.last ++ last;
        between = p.between;
        names_are = p.names_are ∙ ap (λ xs. told_names done ++ xs) (ap (names_with scene.waiting) here.0);
        opened_are = ap (λ xs. xs ++ last) p.opened_are ∙ append_assoc p.first p.last last;
        are = p.are;
        ends = inl (subst (λ (s : State J). EndsRun remaining contents g service (name_of track) (p.last ++ last) p.between s fault) (sym still) (stopped_so track p.last last p.between scene.state mid fault here.2 advances));
      }
  caused_part names done first last old scene rest mid new fault p (inr (inr (a, standing, with, none, same, untold))) looked =
      reported_part names done first last old scene rest mid new fault a standing p with none same (inl untold) looked

  -- ---- a run

  all_turn : (names : List RecordName) (opened : List (Opening I O)) (old new : State J) (before after : Option (List Done)) (tally : Tally)
      → AllMoved remaining contents g service 1 limit names opened old new before after tally → AllDone remaining contents g service names opened old new before after tally
  all_turn names opened old new before after tally all =
      let p = moves_turn all.moves.0 names [] all.done [] opened old (at_start names old) (at_start [] new) (started names old) all.moves.1 in
      record {
        done = all.done;
        names_are = all.names_are;
        are = subst (λ (s : State J). AreDone remaining contents g service all.done opened old s) (sym p.at.1)
            (subst (λ (o : List (Opening I O)). AreDone remaining contents g service all.done o old p.between) (sym (p.opened_are ∙ none_added p.first p.last p.at.0)) p.are);
        tells = all.tells;
        tally_is = all.tally_is;
      }

  part_turn : (names : List RecordName) (opened : List (Opening I O)) (old new : State J) (fault : RunFault)
      → PartMoved remaining contents g service 1 limit names opened old new fault → PartDone remaining contents g service limit names opened old new fault
  part_turn names opened old new fault part = broken part.breaks
    where
      broken : Breaks remaining contents g service 1 limit opened part.done (at_start names old) part.rest part.between fault → PartDone remaining contents g service limit names opened old new fault
      broken (inl (s, never)) =
          let p = moves_turn s.moves.0 names [] part.done [] s.first old (at_start names old) s.between (started names old) s.moves.1 in
          subst (λ (o : List (Opening I O)). PartDone remaining contents g service limit names o old new fault) (sym s.opened_are)
          (caused_part names part.done s.first s.last old s.between part.rest part.between new fault p s.causes part.looked)
      broken (inr u) =
          let p = moves_turn u.moves.0 names [] u.earlier [] opened old (at_start names old) u.between (started names old) u.moves.1 in
          subst (λ (o : List (Opening I O)). PartDone remaining contents g service limit names o old new fault) (append-nil opened)
          (reported_part names u.earlier opened [] old u.between part.rest part.between new fault u.account u.standing p u.tracks refl u.state (inr (streak_of part.done, u.gives_up)) part.looked)

  each_turn : (names : List RecordName) (opened : List (Opening I O)) (old new : State J) (before after : Option (List Done)) (result : Result Tally RunFault)
      → PushesAbreast remaining contents g service 1 limit names opened old new before after result → PushesEach remaining contents g service limit names opened old new before after result
  each_turn names opened old new before after (Ok tally) all = all_turn names opened old new before after tally all
  each_turn names opened old new before after (Err fault) part = part_turn names opened old new fault part

  abbrev Each : List RecordName → (opened : List (Opening I O)) → (old new : State J) → (before after : Option (List Done)) → Result Tally RunFault → Type 0
  Each names opened old new before after result = PushesEach remaining contents g service limit names opened old new before after result

  joined_turn : (users groups : List RecordName) (first last : List (Opening I O)) (old between new : State J) (before then after : Option (List Done)) (tally : Tally) (more : Result Tally RunFault)
      → AllDone remaining contents g service users first old between before then tally → Each groups last between new then after more → Each (users ++ groups) (first ++ last) old new before after (joined tally more)
  joined_turn users groups first last old between new before then after tally (Ok more) all rest = all_then remaining contents g service users groups first last old between new before then after tally more all rest
  joined_turn users groups first last old between new before then after tally (Err fault) all rest = part_then remaining contents g service limit users groups first last old between new before then tally fault all rest

  both_turn : (users groups : List RecordName) (opened : List (Opening I O)) (old new : State J) (before after : Option (List Done)) (result : Result Tally RunFault)
      → PushesBoth remaining contents g service 1 limit users groups opened old new before after result → Each (users ++ groups) opened old new before after result
  both_turn users groups opened old new before after result (inl (first, last, between, then, tally, more, opened_are, all, rest, is)) =
      subst (λ (o : List (Opening I O)). Each (users ++ groups) o old new before after result) (sym opened_are)
      (subst (λ (r : Result Tally RunFault). Each (users ++ groups) (first ++ last) old new before after r) (sym is)
      (joined_turn users groups first last old between new before then after tally more (all_turn users first old between before then tally all) (each_turn groups last between new then after more rest)))
  both_turn users groups opened old new before after result (inr (fault, part, is)) =
      subst (λ (r : Result Tally RunFault). Each (users ++ groups) opened old new before after r) (sym is)
      (part_before remaining contents g service limit users groups opened old new fault (part_turn users opened old new fault part))

  in_turn : (leavers_first : Bool) (opened : List (Opening I O)) (old new : State J) (before after : Option (List Done)) (result : Result Tally RunFault)
      → PushesAllAbreast remaining contents g service 1 limit leavers_first opened old new before after result → PushesInTurn remaining contents g service leavers_first limit opened old new before after result
  in_turn leavers_first opened old new before after result (inl (names, order, b)) = inl (
    names,
    order,
    subst (λ (ns : List RecordName). Each ns opened old new before after result) (take-append-drop (prefix_len is_user names) names) (both_turn (users_of names) (groups_of names) opened old new before after result b),
  )
  in_turn leavers_first opened old new before after result (inr none) = inr none

-- ---- one stream

one_window : (streams : ℕ) → streams ≤ 1 → window_of streams ≡ 1
one_window zero less = refl
one_window (suc zero) less = refl
one_window (suc (suc n)) less = absurd (omega (arith, less))

pub one_stream : {I O J : Type 0} (remaining : I → Option (List ℕ)) (contents : O → Option (List ℕ)) (g : Ghosts J) → OneStreamIsInTurn remaining contents g
one_stream remaining contents g service pace opened old new before after result less pushes =
    in_turn remaining contents g service pace.give_up_after pace.leavers_first opened old new before after result
    (subst (λ (w : ℕ). PushesAllAbreast remaining contents g service w pace.give_up_after pace.leavers_first opened old new before after result) (one_window pace.streams less) pushes)
