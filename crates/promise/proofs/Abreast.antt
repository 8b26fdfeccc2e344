-- The moves of a push that makes several exchanges at once. What was begun tells which exchanges may wait for what came; what comes later tells which of them do.
use Rattle.std.proofs.Common.{◌≡◌, ◌≢◌, ◌⊎◌, ℕ, Bool, true, false, List, [], ◌∷◌, ◌++◌, map, Option, Some, Result, Ok, Err, refl, ap, sym, subst, ◌∙◌, append_assoc, append-nil, inl, inr}
use Rattle.std.proofs.lemmas.List.{take-append-drop}
use Rattle.std.specs.List.{AllByRecursion, prefix_len}
use Rattle.std.specs.List.Sorted.{IsPermutation}
use Rattle.std.specs.FinMap.{keys}
use Rattle.scim_key.specs.declared.records.RecordName.{RecordName}
use Rattle.scim_client.specs.Requests.{text_of}
use Rattle.journal_core.specs.declared.journals.Journal.{Ghosts as Journals}
use Rattle.connector_core.specs.Asking.{asking}
use Rattle.connector_core.specs.Maps.{BookMap, book_of}
use Rattle.connector_core.specs.State.{State as Connector}
use Rattle.connector_core.specs.declared.asking.Ask.TheVariants.{Send}
use Rattle.provisioning.specs.Abreast.{PushesAllAbreast, PushesBoth, groups_of, is_user, users_of}
use Rattle.provisioning.specs.Exchanges.{Came, answer_in}
use Rattle.provisioning.specs.Openings.{Opening}
use Rattle.provisioning.specs.Orders.{IsPushOrder}
use Rattle.provisioning.specs.Leavers.{is_switched_off}
use Rattle.provisioning.specs.Runs.{Done}
use Rattle.provisioning.specs.Services.{Service, keeping_at}
use Rattle.provisioning.specs.Tracks.{Advances, Begins, Closes, IsLearnt, IsSetOut, faulted, fresh, put_off}
use Rattle.provisioning.specs.Windows.{AllMoved, AreMoves, Breaks, Causes, IsMove, IsWith, LooksThrough, PartMoved, Point, PushesAbreast, Scene, at_start, name_of, names_in}
use Rattle.provisioning.specs.declared.faults.RecordFault.{RecordFault}
use Rattle.provisioning.specs.declared.faults.RunFault.{RunFault}
use Rattle.provisioning.specs.declared.pushing.Tally.{Tally}
use Rattle.provisioning.specs.declared.records.Standing.{Standing}
use Rattle.provisioning.specs.declared.tracks.Account.{Account}
use Rattle.provisioning.specs.declared.tracks.Flight.{Flight}
use Rattle.provisioning.specs.declared.tracks.Track.{Track}
use Rattle.provisioning.specs.declared.tracks.Track.TheVariants.{UnderWay, Delayed, Done as IsDone}
use Rattle.provisioning.proofs.AskedLemmas.{asked_of}
use Rattle.world_model.specs.World.{Asked}
use Rattle.world_sim.specs.Fitting.{IsFormed}
use Rattle.promise.specs.Calls.{Asking, exchange_of}
use Rattle.promise.specs.Moves.{AreAmong, IsPush, Move, Move.asks, Move.hears, PushDoes, streams_in}
use Rattle.promise.proofs.Bags.{AreApart, Holds, all_of, all_weaker, apart_all, apart_one, holds_at, holds_longer, holds_mapped, holds_of, one_of, with_of}
use Rattle.promise.proofs.Calls.{unsent}
use Rattle.promise.proofs.Names.{apart_back, apart_front, keys_apart, parted}
use Rattle.promise.proofs.Pushes.{among_skip}

-- ---- exchanges of records that are apart

-- this name is of none of them, and no two have the same
abbrev AreOthers : RecordName → List RecordName → Type 0
AreOthers name names = AllByRecursion (λ n. n ≢ name) names × AreApart names

module _ {I O : Type 0} where
  -- no two of these are for one record
  abbrev OnePerName : List (Asking I O) → Type 0
  OnePerName [] = Unit {0}
  OnePerName (e ∷ waits) = AllByRecursion (λ (f : Asking I O). f.0 ≢ e.0) waits × OnePerName waits

  -- it may wait, and is for another record
  abbrev Except : (Asking I O → Type 0) → RecordName → Asking I O → Type 0
  Except May name e = May e × (e.0 ≢ name)

  -- the one that is for the record is taken out
  record Taken (May Its : Asking I O → Type 0) (waits : List (Asking I O)) : Type 0 where
    pub it : Asking I O
    pub rest : List (Asking I O)
    pub holds : Holds it rest waits
    pub its : Its it
    pub each : AllByRecursion May rest
    pub apart : OnePerName rest

  no_more : (May Its : Asking I O → Type 0) (name : RecordName) → ((e : Asking I O) → Its e → e.0 ≡ name) → (waits : List (Asking I O)) → AllByRecursion (λ (e : Asking I O). May e ⊎ Its e) waits
      → AllByRecursion (λ (e : Asking I O). e.0 ≢ name) waits → AllByRecursion May waits
  no_more May Its name named [] each away = tt
  no_more May Its name named (e ∷ waits) (inl may, each) away = (may, no_more May Its name named waits each away.1)
  no_more May Its name named (e ∷ waits) (inr its, each) away = absurd (away.0 (named e its))

  one_or_none : (May Its : Asking I O → Type 0) (name : RecordName) → ((e : Asking I O) → Its e → e.0 ≡ name) → (waits : List (Asking I O))
      → AllByRecursion (λ (e : Asking I O). May e ⊎ Its e) waits → OnePerName waits → AllByRecursion May waits ⊎ Taken May Its waits
  one_or_none May Its name named [] each apart = inl tt
  one_or_none May Its name named (e ∷ waits) (inr its, each) apart =
      let away = subst (λ (n : RecordName). AllByRecursion (λ (f : Asking I O). f.0 ≢ n) waits) (named e its) apart.0 in
      inr (record { it = e; rest = waits; holds = inl (refl, refl); its = its; each = no_more May Its name named waits each away; apart = apart.1 })
  one_or_none May Its name named (e ∷ waits) (inl may, each) apart = elim (one_or_none May Its name named waits each apart.1) [
    | inl all ↦ inl (may, all)
    | inr t ↦
        let others = one_of (λ (f : Asking I O). f.0 ≢ e.0) t.it t.rest waits t.holds apart.0 in
        inr (record { it = t.it; rest = e ∷ t.rest; holds = inr (t.rest, refl, t.holds); its = t.its; each = (may, t.each); apart = (others.1, t.apart) })
  ]

  -- ---- the names of the records that aren't reported

  abbrev names_of : List (Track I O) → List RecordName → List RecordName
  names_of tracks waiting = map name_of tracks ++ waiting

  held : (track : Track I O) (others all : List (Track I O)) (waiting : List RecordName) → IsWith track others all → Holds (name_of track) (names_of others waiting) (names_of all waiting)
  held track others all waiting with = holds_longer (name_of track) (map name_of others) (map name_of all) waiting (holds_mapped name_of track others all (holds_of track others all with))

  begun_name : (contents : O → Option (List ℕ)) (service : Service) (a : Account) (opened : List (Opening I O)) (book : BookMap) (track : Track I O)
      → Begins contents service a opened (book_of book) track → name_of track ≡ a.name
  begun_name contents service a opened book (UnderWay later f) b = ap (λ (x : Account). x.name) b.later_is
  begun_name contents service a opened book (Delayed later) b = absurd b
  begun_name contents service a opened book (IsDone later standing) b = ap (λ (x : Account). x.name) b.1

module _ {J I O : Type 0} (P Q : Type 0) (h : Journals J) (received : I → Option (List ℕ)) (posted : O → Option (List ℕ)) (base : List ℕ) (window : ℕ) (last : BookMap) where
  -- from here to the end, if at most such exchanges wait
  record Makes (opened : List (Opening I O)) (May : Asking I O → Type 0) (book : BookMap) : Type 0 where
    pub waits : List (Asking I O)
    pub each : AllByRecursion May waits
    pub apart : OnePerName waits
    pub moves : List (Move I O P Q)
    pub does : PushDoes h received posted base false moves waits book last
    pub streams : AreAmong (streams_in moves) opened

  wider : (May More : Asking I O → Type 0) (opened : List (Opening I O)) (book : BookMap) → ((e : Asking I O) → May e → More e) → Makes opened May book → Makes opened More book
  wider May More opened book more m = record { waits = m.waits; each = all_weaker May More more m.waits m.each; apart = m.apart; moves = m.moves; does = m.does; streams = m.streams }

  except : (May : Asking I O → Type 0) (name : RecordName) (opened : List (Opening I O)) (book : BookMap) → Makes opened (Except May name) book → Makes opened May book
  except May name opened book m = wider (Except May name) May opened book (λ e is. is.0) m

  -- openings on which nothing is sent
  skip : (first opened : List (Opening I O)) (May : Asking I O → Type 0) (book : BookMap) → Makes opened May book → Makes (first ++ opened) May book
  skip first opened May book m = record { waits = m.waits; each = m.each; apart = m.apart; moves = m.moves; does = m.does; streams = among_skip first (streams_in m.moves) opened m.streams }

  on_book : (opened : List (Opening I O)) (May : Asking I O → Type 0) (old new : Connector J) → new ≡ old → Makes opened May new.book → Makes opened May old.book
  on_book opened May old new same m = subst (λ (c : Connector J). Makes opened May c.book) same m

  on_streams : (opened others : List (Opening I O)) (May : Asking I O → Type 0) (book : BookMap) → opened ≡ others → Makes others May book → Makes opened May book
  on_streams opened others May book same m = subst (λ (l : List (Opening I O)). Makes l May book) (sym same) m

  unopened : (opened : List (Opening I O)) (May : Asking I O → Type 0) (book : BookMap) → Makes [] May book → Makes opened May book
  unopened opened May book m = on_streams opened (opened ++ []) May book (sym (append-nil opened)) (skip opened [] May book m)

  -- ---- what may wait

  -- the exchange of a record that is under way may, on the stream on which its request was sent
  abbrev Expects : (Asking I O → Type 0) → Track I O → Type 0
  Expects May (UnderWay a f) = (stream : I × O) × IsSetOut posted (keeping_at base) f.request stream f × ((came : Came) → IsFormed base (Asked f.request) → May (a.name, exchange_of f stream came))
  Expects May (Delayed a) = Unit {0}
  Expects May (IsDone a standing) = Unit {0}

  abbrev AllExpect : (Asking I O → Type 0) → List (Track I O) → Type 0
  AllExpect May tracks = AllByRecursion (Expects May) tracks

  expects_more : (May More : Asking I O → Type 0) (name : RecordName) → ((e : Asking I O) → Except May name e → More e) → (track : Track I O) → name_of track ≢ name → Expects May track
      → Expects More track
  expects_more May More name more (UnderWay a f) apart (stream, set, may) = (stream, set, λ came formed. more (a.name, exchange_of f stream came) (may came formed, apart))
  expects_more May More name more (Delayed a) apart its = tt
  expects_more May More name more (IsDone a standing) apart its = tt

  all_expect : (May More : Asking I O → Type 0) (name : RecordName) → ((e : Asking I O) → Except May name e → More e) → (tracks : List (Track I O)) (waiting : List RecordName)
      → AllByRecursion (λ n. n ≢ name) (names_of tracks waiting)
      → AllExpect May tracks → AllExpect More tracks
  all_expect May More name more [] waiting away each = tt
  all_expect May More name more (track ∷ tracks) waiting away each = (expects_more May More name more track away.0 each.0, all_expect May More name more tracks waiting away.1 each.1)

  -- whatever may wait for these records
  abbrev From : List (Opening I O) → List (Track I O) → List RecordName → BookMap → Type 1
  From opened tracks waiting book = (May : Asking I O → Type 0) → AllExpect May tracks → AreApart (names_of tracks waiting) → Makes opened May book

  -- the exchanges of other records, and whatever may wait for this one
  abbrev Onward : List (Opening I O) → (Asking I O → Type 0) → RecordName → Track I O → BookMap → Type 1
  Onward opened May name track book = (More : Asking I O → Type 0) → Expects More track → ((e : Asking I O) → Except May name e → More e) → Makes opened More book

  -- the record leaves
  leaves : (track : Track I O) (others all : List (Track I O)) (waiting : List RecordName) (May : Asking I O → Type 0) → IsWith track others all → AllExpect May all → AreApart (names_of all waiting)
      → Expects May track × AllExpect May others × AreOthers (name_of track) (names_of others waiting)
  leaves track others all waiting May with each apart =
      let its = one_of (Expects May) track others all (holds_of track others all with) each in
      (its.0, its.1, apart_one (name_of track) (names_of others waiting) (names_of all waiting) (held track others all waiting with) apart)

  -- the record comes
  comes : (track : Track I O) (others all : List (Track I O)) (name : RecordName) (waiting : List RecordName) (opened : List (Opening I O)) (book : BookMap) (May : Asking I O → Type 0)
      → IsWith track others all → name_of track ≡ name
      → From opened all waiting book → AllExpect May others → AreOthers name (names_of others waiting) → Onward opened May name track book
  comes track others all name waiting opened book May with same from each away More its more =
      from More (all_of (Expects More) track others all (holds_of track others all with) its (all_expect May More name more others waiting away.0 each))
      (apart_all (name_of track) (names_of others waiting) (names_of all waiting) (held track others all waiting with)
      (subst (λ (m : RecordName). AllByRecursion (λ n. n ≢ m) (names_of others waiting)) (sym same) away.0) away.1)

  -- ---- an exchange is over

  heard : (a : Account) (f : Flight I O) (May : Asking I O → Type 0) (opened : List (Opening I O)) (old new : Connector J) (result : Result (Option RecordFault) RunFault) → Expects May (UnderWay a f)
      → IsLearnt received h (keeping_at base) f old new result → Makes opened (Except May a.name) new.book → Makes opened May old.book
  heard a f May opened old new result (stream, set, may) learnt m =
      let asked = asked_of received posted (keeping_at base) f stream set (answer_in learnt.came) learnt.heard in
      elim (asked.spelled) [
        | inl none ↦ subst (λ (b : BookMap). Makes opened May b) (unsent h base (text_of base f.request) f.request learnt.came (posted stream.1) asked.written old new asked.sent none learnt.becomes)
            (except May a.name opened new.book m)
        | inr spells ↦
            let e : Asking I O = (a.name, exchange_of f stream learnt.came) in
            record {
              waits = e ∷ m.waits;
              each = (may learnt.came spells, all_weaker (Except May a.name) May (λ x is. is.0) m.waits m.each);
              apart = (all_weaker (Except May a.name) (λ (x : Asking I O). x.0 ≢ a.name) (λ x is. is.1) m.waits m.each, m.apart);
              moves = hears e ∷ m.moves;
              does = (m.waits, ([], m.waits, refl, refl), (old, new, record { sent = asked; becomes = learnt.becomes }, refl, m.does));
              streams = m.streams;
            }
      ]

  -- ---- a record is begun, or goes on

  abbrev IsFor : Account → Flight I O → I × O → Asking I O → Type 0
  IsFor a f stream e = (came : Came) × IsFormed base (Asked f.request) × (e ≡ (a.name, exchange_of f stream came))

  begun : (a : Account) (first opened : List (Opening I O)) (track : Track I O) (book : BookMap) (May : Asking I O → Type 0) → Begins posted (keeping_at base) a first (book_of book) track
      → Onward opened May a.name track book
      → Makes (first ++ opened) May book
  begun a first opened (UnderWay later f) book May s on =
      let name : later.name ≡ a.name = ap (λ (x : Account). x.name) s.later_is in
      let m = on (λ e. Except May a.name e ⊎ IsFor later f s.stream e) (s.stream, s.set_out, λ came formed. inr (came, formed, refl)) (λ e is. inl is) in
      elim (one_or_none (Except May a.name) (IsFor later f s.stream) a.name (λ e is. ap (λ (x : Asking I O). x.0) is.2 ∙ name) m.waits m.each m.apart) [
        | inl all ↦ except May a.name (first ++ opened) book
            (skip first opened (Except May a.name) book (record { waits = m.waits; each = all; apart = m.apart; moves = m.moves; does = m.does; streams = m.streams }))
        | inr t ↦
            let e : Asking I O = (later.name, exchange_of f s.stream t.its.0) in
            let away = all_weaker (Except May a.name) (λ (x : Asking I O). x.0 ≢ a.name) (λ x is. is.1) t.rest t.each in
            record {
              waits = t.rest;
              each = all_weaker (Except May a.name) May (λ x is. is.0) t.rest t.each;
              apart = t.apart;
              moves = asks e ∷ m.moves;
              does = (
                (subst (λ (n : RecordName). asking (book_of book) n ≡ Some (Send f.request)) (sym name) s.asked, t.its.1),
                subst (λ (n : RecordName). AllByRecursion (λ (x : Asking I O). x.0 ≢ n) t.rest) (sym name) away,
                (m.waits, with_of e t.rest m.waits (subst (λ (x : Asking I O). Holds x t.rest m.waits) t.its.2 t.holds), m.does),
              );
              streams = ([], opened, ap (λ (l : List (Opening I O)). l ++ opened) s.opened_are, m.streams);
            }
      ]
  begun a first opened (Delayed later) book May s on = absurd s
  begun a first opened (IsDone later standing) book May s on = skip first opened May book (except May a.name opened book (on (Except May a.name) tt (λ e is. is)))

  -- ---- one move

  abbrev FromScene : List (Opening I O) → Scene I O J → Type 1
  FromScene opened scene = From opened scene.tracks scene.waiting scene.state.book

  -- a track of a record takes the place of another
  swapped : (x y : Track I O) (others : List (Track I O)) (opened : List (Opening I O)) (old new : Scene I O J) → IsWith x others old.tracks → IsWith y others new.tracks → name_of y ≡ name_of x
      → new.waiting ≡ old.waiting
      → FromScene opened new → (May : Asking I O → Type 0) → AllExpect May old.tracks → AreApart (names_in old) → Onward opened May (name_of x) y new.state.book
  swapped x y others opened old new before after named same from May each apart =
      let left = leaves x others old.tracks old.waiting May before each apart in
      comes y others new.tracks (name_of x) new.waiting opened new.state.book May after named from left.1 (subst (λ (l : List RecordName). AreOthers (name_of x) (names_of others l)) (sym same) left.2)

  expected : (track : Track I O) (others all : List (Track I O)) (May : Asking I O → Type 0) → IsWith track others all → AllExpect May all → Expects May track
  expected track others all May with each = (one_of (Expects May) track others all (holds_of track others all with) each).0

  move_more : (first opened : List (Opening I O)) (told : List Done) (old new : Scene I O J) → IsMove received posted h (keeping_at base) window first told old new → FromScene opened new
      → FromScene (first ++ opened) old
  move_more first opened told old new (inl b) from May each apart =
      let so : AreApart (map name_of old.tracks ++ b.name ∷ new.waiting) = subst (λ (l : List RecordName). AreApart (map name_of old.tracks ++ l)) b.waiting apart in
      let away = apart_one b.name (names_of old.tracks new.waiting) (map name_of old.tracks ++ b.name ∷ new.waiting) (holds_at b.name (map name_of old.tracks) new.waiting) so in
      let named = begun_name posted (keeping_at base) (fresh b.name) first old.state.book b.track b.begins in
      begun (fresh b.name) first opened b.track old.state.book May b.begins
      (λ More its more. on_book opened More old.state new.state b.state (comes b.track old.tracks new.tracks b.name new.waiting opened new.state.book May b.tracks named from each away More its more))
  move_more first opened told old new (inr (inl c)) from May each apart =
      let a = faulted c.fault c.account in
      let x : Track I O = UnderWay c.account c.flight in
      let named = begun_name posted (keeping_at base) a first new.state.book c.track c.begins in
      heard c.account c.flight May (first ++ opened) old.state new.state (Ok c.fault) (expected x c.others old.tracks May c.before each) c.learnt
      (begun a first opened c.track new.state.book (Except May c.account.name) c.begins
      (λ More its more. swapped x c.track c.others opened old new c.before c.after named c.waiting from May each apart More its (λ e is. more e (is, is.1))))
  move_more first opened told old new (inr (inr (inl d))) from May each apart =
      let x : Track I O = UnderWay d.account d.flight in
      heard d.account d.flight May (first ++ opened) old.state new.state (Ok d.fault) (expected x d.others old.tracks May d.before each) d.learnt
      (skip first opened (Except May d.account.name) new.state.book
      (swapped x (Delayed (put_off (faulted d.fault d.account))) d.others opened old new d.before d.after refl d.waiting from May each apart (Except May d.account.name) tt (λ e is. is)))
  move_more first opened told old new (inr (inr (inr (inl r)))) from May each apart =
      let named = begun_name posted (keeping_at base) r.account first old.state.book r.track r.begins in
      begun r.account first opened r.track old.state.book May r.begins
      (λ More its more. on_book opened More old.state new.state r.state (swapped (Delayed r.account) r.track r.others opened old new r.before r.after named r.waiting from May each apart More its more))
  move_more first opened told old new (inr (inr (inr (inr (inl r))))) from May each apart =
      let left = leaves (IsDone r.account r.standing) new.tracks old.tracks old.waiting May r.tracks each apart in
      skip first opened May old.state.book (on_book opened May old.state new.state r.state (from May left.1 (subst (λ (l : List RecordName). AreApart (names_of new.tracks l)) (sym r.waiting) left.2.1)))
  move_more first opened told old new (inr (inr (inr (inr (inr m))))) from May each apart =
      skip first opened May old.state.book (on_book opened May old.state new.state m.state
      (swapped m.track m.track m.others opened old new m.before m.after refl m.waiting from May each apart May (expected m.track m.others old.tracks May m.before each) (λ e is. is.0)))

  -- ---- moves

  moves_more : (points : List (Point I O J)) (first opened : List (Opening I O)) (told : List Done) (old new : Scene I O J)
      → AreMoves received posted h (keeping_at base) window points first told old new → FromScene opened new → FromScene (first ++ opened) old
  moves_more [] first opened told old new (none, silent, same) from May each apart =
      on_streams (first ++ opened) opened May old.state.book (ap (λ (l : List (Opening I O)). l ++ opened) none)
      (subst (λ (s : Scene I O J). AllExpect May s.tracks → AreApart (names_in s) → Makes opened May s.state.book) same (from May) each apart)
  moves_more (p ∷ points) first opened told old new m from May each apart =
      on_streams (first ++ opened) (p.opened ++ (m.0 ++ opened)) May old.state.book (ap (λ (l : List (Opening I O)). l ++ opened) m.2 ∙ append_assoc p.opened m.0 opened)
      (move_more p.opened (m.0 ++ opened) p.told old p.scene m.4 (moves_more points m.0 opened m.1 p.scene new m.5 from) May each apart)

  -- ---- each answer that is under way is learnt from

  closed : (track : Track I O) (May : Asking I O → Type 0) (opened : List (Opening I O)) (old new : Connector J) (result : Result (Unit {0}) RunFault) → Expects May track
      → Closes received h (keeping_at base) track old new result
      → Makes opened (Except May (name_of track)) new.book → Makes opened May old.book
  closed (UnderWay a f) May opened old new (Ok done) its closes m = heard a f May opened old new (Ok closes.0) its closes.1 m
  closed (UnderWay a f) May opened old new (Err fault) its closes m = heard a f May opened old new (Err fault) its closes m
  closed (Delayed a) May opened old new result its closes m = on_book opened May old new closes.0 (except May a.name opened new.book m)
  closed (IsDone a standing) May opened old new result its closes m = on_book opened May old new closes.0 (except May a.name opened new.book m)

  -- whatever may wait, nothing does
  abbrev Ends : List (Opening I O) → BookMap → Type 1
  Ends opened book = (May : Asking I O → Type 0) → Makes opened May book

  at_end : Ends [] last
  at_end May = record { waits = []; each = tt; apart = tt; moves = []; does = (refl, refl); streams = tt }

  looked : (tracks : List (Track I O)) (waiting : List RecordName) (old new : Connector J) → LooksThrough received h (keeping_at base) tracks old new → Ends [] new.book
      → From [] tracks waiting old.book
  looked [] waiting old new same ends May each apart = on_book [] May old new same (ends May)
  looked (track ∷ tracks) waiting old new l ends May each apart =
      let others : Asking I O → Type 0 = Except May (name_of track) in
      closed track May [] old l.1 l.0 each.0 l.2 (looked tracks waiting l.1 new l.3 ends others (all_expect May others (name_of track) (λ e is. is) tracks waiting apart.0 each.1) apart.1)

  -- ---- what ends a run

  advanced : (track : Track I O) (May : Asking I O → Type 0) (opened : List (Opening I O)) (old new : Connector J) (fault : RunFault) → Expects May track
      → Advances received posted h (keeping_at base) track opened old new (Err fault)
      → Makes opened (Except May (name_of track)) new.book → Makes opened May old.book
  advanced (UnderWay a f) May opened old new fault its (inl c) m = heard a f May opened old new (Ok c.fault) its c.learnt m
  advanced (UnderWay a f) May opened old new fault its (inr (inl d)) m = absurd (cc d.result_is)
  advanced (UnderWay a f) May opened old new fault its (inr (inr e)) m = heard a f May opened old new (Err e.0) its e.1 m
  advanced (Delayed a) May opened old new fault its (same, goes) m = on_book opened May old new same (except May a.name opened new.book m)
  advanced (IsDone a standing) May opened old new fault its (none, same, is) m = absurd (cc is)

  reported : (opened : List (Opening I O)) (scene : Scene I O J) (rest : List (Track I O)) (new : Connector J) (a : Account) (standing : Standing) → IsWith (IsDone a standing) rest scene.tracks
      → new ≡ scene.state
      → From [] rest scene.waiting new.book → FromScene opened scene
  reported opened scene rest new a standing with same from May each apart =
      let left = leaves (IsDone a standing) rest scene.tracks scene.waiting May with each apart in
      unopened opened May scene.state.book (on_book [] May scene.state new same (from May left.1 left.2.1))

  caused : (opened : List (Opening I O)) (scene : Scene I O J) (rest : List (Track I O)) (new : Connector J) (fault : RunFault)
      → Causes received posted h (keeping_at base) window opened scene rest new fault
      → From [] rest scene.waiting new.book → FromScene opened scene
  caused opened scene rest new fault (inl c) from May each apart =
      let left = subst (λ (l : List (Track I O)). AllExpect May l × AreApart (names_of l scene.waiting)) (sym c.0) (each, apart) in
      unopened opened May scene.state.book (on_book [] May scene.state new c.1 (from May left.0 left.1))
  caused opened scene rest new fault (inr (inl c)) from May each apart =
      let left = leaves c.0 rest scene.tracks scene.waiting May c.1 each apart in
      let others : Asking I O → Type 0 = Except May (name_of c.0) in
      advanced c.0 May opened scene.state new fault left.0 c.2 (unopened opened others new.book (from others (all_expect May others (name_of c.0) (λ e is. is) rest scene.waiting left.2.0 left.1) left.2.1))
  caused opened scene rest new fault (inr (inr c)) from May each apart = reported opened scene rest new c.0 c.1 c.2 c.4 from May each apart

  -- ---- records

  all_moved : (limit : ℕ) (names : List RecordName) (first opened : List (Opening I O)) (old new : Connector J) (before after : Option (List Done)) (tally : Tally) → AreApart names
      → AllMoved received posted h (keeping_at base) window limit names first old new before after tally → Ends opened new.book → Ends (first ++ opened) old.book
  all_moved limit names first opened old new before after tally apart all ends May =
      moves_more all.moves.0 first opened all.done (at_start names old) (at_start [] new) all.moves.1 (λ More each away. ends More) May tt apart

  part_moved : (limit : ℕ) (names : List RecordName) (opened : List (Opening I O)) (old new : Connector J) (fault : RunFault) → AreApart names
      → PartMoved received posted h (keeping_at base) window limit names opened old new fault → Ends [] new.book → Ends opened old.book
  part_moved limit names opened old new fault apart part ends May = broken part.breaks
    where
      broken : Breaks received posted h (keeping_at base) window limit opened part.done (at_start names old) part.rest part.between fault → Makes opened May old.book
      broken (inl (s, never)) = on_streams opened (s.first ++ s.last) May old.book s.opened_are (moves_more s.moves.0 s.first s.last part.done (at_start names old) s.between s.moves.1
          (caused s.last s.between part.rest part.between fault s.causes (looked part.rest s.between.waiting part.between new part.looked ends)) May tt apart)
      broken (inr u) = on_streams opened (opened ++ []) May old.book (sym (append-nil opened)) (moves_more u.moves.0 opened [] u.earlier (at_start names old) u.between u.moves.1
          (reported [] u.between part.rest part.between u.account u.standing u.tracks u.state (looked part.rest u.between.waiting part.between new part.looked ends)) May tt apart)

  nothing_waits : (waits : List (Asking I O)) → AllByRecursion (λ (e : Asking I O). ⊥) waits → waits ≡ []
  nothing_waits [] none = refl
  nothing_waits (e ∷ waits) none = absurd none.0

  whole : (opened : List (Opening I O)) (book : BookMap) → Ends opened book → IsPush P Q h received posted base false opened book last
  whole opened book ends =
      let m = ends (λ e. ⊥) in
      record { moves = m.moves; does = subst (λ waits. PushDoes h received posted base false m.moves waits book last) (nothing_waits m.waits m.each) m.does; streams = m.streams }

module _ {J I O : Type 0} (P Q : Type 0) (h : Journals J) (received : I → Option (List ℕ)) (posted : O → Option (List ℕ)) (base : List ℕ) (window : ℕ) where
  abbrev Does : List (Opening I O) → (book last : BookMap) → Type 0
  Does opened book last = IsPush P Q h received posted base false opened book last

  abreast_moved : (limit : ℕ) (names : List RecordName) (opened : List (Opening I O)) (old new : Connector J) (before after : Option (List Done)) (result : Result Tally RunFault) → AreApart names
      → PushesAbreast received posted h (keeping_at base) window limit names opened old new before after result → Ends P Q h received posted base window new.book opened old.book
  abreast_moved limit names opened old new before after (Ok tally) apart all May =
      on_streams P Q h received posted base window new.book opened (opened ++ []) May old.book (sym (append-nil opened))
      (all_moved P Q h received posted base window new.book limit names opened [] old new before after tally apart all (at_end P Q h received posted base window new.book) May)
  abreast_moved limit names opened old new before after (Err fault) apart part May =
      part_moved P Q h received posted base window new.book limit names opened old new fault apart part (at_end P Q h received posted base window new.book) May

  both_moved : (limit : ℕ) (users groups : List RecordName) (opened : List (Opening I O)) (old new : Connector J) (before after : Option (List Done)) (result : Result Tally RunFault)
      → AreApart users → AreApart groups
      → PushesBoth received posted h (keeping_at base) window limit users groups opened old new before after result → Ends P Q h received posted base window new.book opened old.book
  both_moved limit users groups opened old new before after result apart away (inl b) May =
      on_streams P Q h received posted base window new.book opened (b.0 ++ b.1) May old.book b.6
      (all_moved P Q h received posted base window new.book limit users b.0 b.1 old b.2 before b.3 b.4 apart b.7 (abreast_moved limit groups b.1 b.2 new b.3 after b.5 away b.8) May)
  both_moved limit users groups opened old new before after result apart away (inr f) May =
      part_moved P Q h received posted base window new.book limit users opened old new f.0 apart f.1 (at_end P Q h received posted base window new.book) May

  -- ---- in order

  order_apart : (leavers_first : Bool) (book : BookMap) (names : List RecordName) → IsPushOrder leavers_first book names → AreApart names
  order_apart false book names order = keys_apart book names order.same
  order_apart true book names order =
      keys_apart book names (subst (λ (l : List RecordName). IsPermutation (keys book) l) (sym order.2) (parted (is_switched_off (book_of book)) (keys book) order.0 order.1.same))

  pub abreast_made : (limit : ℕ) (leavers_first : Bool) (opened : List (Opening I O)) (old new : Connector J) (before after : Option (List Done)) (result : Result Tally RunFault)
      → PushesAllAbreast received posted h (keeping_at base) window limit leavers_first opened old new before after result → Does opened old.book new.book
  abreast_made limit leavers_first opened old new before after result (inl p) =
      let split = take-append-drop (prefix_len is_user p.0) p.0 in
      let apart : AreApart (users_of p.0 ++ groups_of p.0) = subst AreApart (sym split) (order_apart leavers_first old.book p.0 p.1) in
      whole P Q h received posted base window new.book opened old.book
      (both_moved limit (users_of p.0) (groups_of p.0) opened old new before after result (apart_front (users_of p.0) (groups_of p.0) apart) (apart_back (users_of p.0) (groups_of p.0) apart) p.2)
  abreast_made limit leavers_first opened old new before after result (inr n) = record { moves = []; does = (refl, ap (λ (c : Connector J). c.book) n.2); streams = tt }
