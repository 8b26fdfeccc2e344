-- Moves of many records, one after another.
use Rattle.std.proofs.Common.{◌<◌, ℕ, suc, length, List, [], ◌∷◌, ◌++◌, map, Option, inl, inr, refl, ap, sym, ◌∙◌, subst, append_assoc, append-nil, arith}
use Rattle.journal_core.specs.declared.journals.Journal.{Ghosts}
use Rattle.connector_core.specs.State.{State}
use Rattle.provisioning.specs.Openings.{Opening}
use Rattle.provisioning.specs.Runs.{Done}
use Rattle.provisioning.specs.Services.{Service}
use Rattle.provisioning.specs.Tracks.{faulted, put_off}
use Rattle.provisioning.specs.Windows.{AreMoves, Causes, IsMove, IsWith, LooksThrough, Moves, Point, Scene, Stops, with_first}
use Rattle.provisioning.specs.declared.faults.RunFault.{RunFault}
use Rattle.provisioning.specs.declared.tracks.Track.{Track}
use Rattle.provisioning.specs.declared.tracks.Track.TheVariants.{UnderWay, Delayed, Done as IsDone}

-- ---- places in a list

pub with_front : {X : Type 0} (x : X) (xs : List X) → IsWith x xs (x ∷ xs)
with_front x xs = ([], xs, refl, refl)

pub with_back : {X : Type 0} (x : X) (xs : List X) → IsWith x xs (xs ++ x ∷ [])
with_back x xs = (xs, [], refl, sym (append-nil xs))

pub with_after : {X : Type 0} (x y : X) (others all : List X) → IsWith x others all → IsWith x (y ∷ others) (y ∷ all)
with_after x y others all w = (y ∷ w.0, w.1, ap (λ xs. y ∷ xs) w.2, ap (λ xs. y ∷ xs) w.3)

module _ {I O J : Type 0} (remaining : I → Option (List ℕ)) (contents : O → Option (List ℕ)) (g : Ghosts J) (service : Service) (window : ℕ) where
  -- ---- moves after moves

  pub no_moves : (scene : Scene I O J) → Moves remaining contents g service window [] [] scene scene
  no_moves scene = ([], (refl, refl, refl))

  pub one_move : (opened : List (Opening I O)) (told : List Done) (old new : Scene I O J) → IsMove remaining contents g service window opened told old new → Moves remaining contents g service window opened told old new
  one_move opened told old new move =
      (record { opened = opened; told = told; scene = new } ∷ [], ([], [], sym (append-nil opened), sym (append-nil told), move, (refl, refl, refl)))

  are_more : (ps qs : List (Point I O J)) (first then : List (Opening I O)) (told more : List Done) (old between new : Scene I O J)
      → AreMoves remaining contents g service window ps first told old between → AreMoves remaining contents g service window qs then more between new
      → AreMoves remaining contents g service window (ps ++ qs) (first ++ then) (told ++ more) old new
  are_more [] qs first then told more old between new (a, b, c) q =
      subst (λ (s : Scene I O J). AreMoves remaining contents g service window qs (first ++ then) (told ++ more) s new) c
      (subst (λ (o : List (Opening I O)). AreMoves remaining contents g service window qs (o ++ then) (told ++ more) between new) (sym a)
      (subst (λ (t : List Done). AreMoves remaining contents g service window qs then (t ++ more) between new) (sym b) q))
  are_more (p ∷ ps) qs first then told more old between new m q = (
    m.0 ++ then,
    m.1 ++ more,
    ap (λ xs. xs ++ then) m.2 ∙ append_assoc p.opened m.0 then,
    ap (λ xs. xs ++ more) m.3 ∙ append_assoc p.told m.1 more,
    m.4,
    are_more ps qs m.0 then m.1 more p.scene between new m.5 q,
  )

  pub moves_more : (first then : List (Opening I O)) (told more : List Done) (old between new : Scene I O J)
      → Moves remaining contents g service window first told old between → Moves remaining contents g service window then more between new
      → Moves remaining contents g service window (first ++ then) (told ++ more) old new
  moves_more first then told more old between new (ps, p) (qs, q) = (ps ++ qs, are_more ps qs first then told more old between new p q)

  pub stops_more : (first then : List (Opening I O)) (told more : List Done) (old between : Scene I O J) (rest : List (Track I O)) (new : State J) (fault : RunFault)
      → Moves remaining contents g service window first told old between → Stops remaining contents g service window then more between rest new fault
      → Stops remaining contents g service window (first ++ then) (told ++ more) old rest new fault
  stops_more first then told more old between rest new fault m s = record {
    first = first ++ s.first;
    last = s.last;
    between = s.between;
    moves = moves_more first s.first told more old between s.between m s.moves;
    opened_are = ap (λ xs. first ++ xs) s.opened_are ∙ sym (append_assoc first s.first s.last);
    causes = s.causes;
  }

  -- a fault at once
  pub stops_here : (opened : List (Opening I O)) (scene : Scene I O J) (rest : List (Track I O)) (new : State J) (fault : RunFault)
      → Causes remaining contents g service window opened scene rest new fault → Stops remaining contents g service window opened [] scene rest new fault
  stops_here opened scene rest new fault causes = record {
    first = [];
    last = opened;
    between = scene;
    moves = no_moves scene;
    opened_are = refl;
    causes = causes;
  }

-- ---- beside one more record

more_room : (count room window : ℕ) → room < window → count < room → suc count < window
more_room count room window less here = omega (arith, less, here)

module _ {I O J : Type 0} (remaining : I → Option (List ℕ)) (contents : O → Option (List ℕ)) (g : Ghosts J) (service : Service) (room window : ℕ) (less : room < window) where
  move_beside : (track : Track I O) (opened : List (Opening I O)) (told : List Done) (old new : Scene I O J)
      → IsMove remaining contents g service room opened told old new → IsMove remaining contents g service window opened told (with_first track old) (with_first track new)
  move_beside track opened told old new (inl b) = inl (record {
    name = b.name;
    track = b.track;
    room = more_room (length old.tracks) room window less b.room;
    waiting = b.waiting;
    tracks = with_after b.track track old.tracks new.tracks b.tracks;
    begins = b.begins;
    told_none = b.told_none;
    state = b.state;
  })
  move_beside track opened told old new (inr (inl c)) = inr (inl (record {
    account = c.account;
    flight = c.flight;
    fault = c.fault;
    track = c.track;
    others = track ∷ c.others;
    before = with_after (UnderWay c.account c.flight) track c.others old.tracks c.before;
    after = with_after c.track track c.others new.tracks c.after;
    learnt = c.learnt;
    begins = c.begins;
    told_none = c.told_none;
    waiting = c.waiting;
  }))
  move_beside track opened told old new (inr (inr (inl d))) = inr (inr (inl (record {
    account = d.account;
    flight = d.flight;
    fault = d.fault;
    others = track ∷ d.others;
    before = with_after (UnderWay d.account d.flight) track d.others old.tracks d.before;
    after = with_after (Delayed (put_off (faulted d.fault d.account))) track d.others new.tracks d.after;
    learnt = d.learnt;
    may = d.may;
    opened_none = d.opened_none;
    told_none = d.told_none;
    waiting = d.waiting;
  })))
  move_beside track opened told old new (inr (inr (inr (inl r)))) = inr (inr (inr (inl (record {
    account = r.account;
    track = r.track;
    others = track ∷ r.others;
    before = with_after (Delayed r.account) track r.others old.tracks r.before;
    after = with_after r.track track r.others new.tracks r.after;
    begins = r.begins;
    told_none = r.told_none;
    state = r.state;
    waiting = r.waiting;
  }))))
  move_beside track opened told old new (inr (inr (inr (inr (inr m))))) = inr (inr (inr (inr (inr (record {
    track = m.track;
    others = track ∷ m.others;
    before = with_after m.track track m.others old.tracks m.before;
    after = with_after m.track track m.others new.tracks m.after;
    opened_none = m.opened_none;
    told_none = m.told_none;
    state = m.state;
    waiting = m.waiting;
  })))))
  move_beside track opened told old new (inr (inr (inr (inr (inl r))))) = inr (inr (inr (inr (inl (record {
    account = r.account;
    standing = r.standing;
    tracks = with_after (IsDone r.account r.standing) track new.tracks old.tracks r.tracks;
    opened_none = r.opened_none;
    told_is = r.told_is;
    state = r.state;
    waiting = r.waiting;
  })))))

  abbrev beside : Track I O → Point I O J → Point I O J
  beside track p = record { opened = p.opened; told = p.told; scene = with_first track p.scene }

  are_beside : (track : Track I O) (ps : List (Point I O J)) (opened : List (Opening I O)) (told : List Done) (old new : Scene I O J)
      → AreMoves remaining contents g service room ps opened told old new
      → AreMoves remaining contents g service window (map (beside track) ps) opened told (with_first track old) (with_first track new)
  are_beside track [] opened told old new (a, b, c) = (a, b, ap (with_first track) c)
  are_beside track (p ∷ ps) opened told old new m =
      (m.0, m.1, m.2, m.3, move_beside track p.opened p.told old p.scene m.4, are_beside track ps m.0 m.1 p.scene new m.5)

  pub moves_beside : (track : Track I O) (opened : List (Opening I O)) (told : List Done) (old new : Scene I O J)
      → Moves remaining contents g service room opened told old new
      → Moves remaining contents g service window opened told (with_first track old) (with_first track new)
  moves_beside track opened told old new (ps, m) = (map (beside track) ps, are_beside track ps opened told old new m)

  causes_beside : (track : Track I O) (last : List (Opening I O)) (scene : Scene I O J) (rest : List (Track I O)) (new : State J) (fault : RunFault)
      → Causes remaining contents g service room last scene rest new fault → Causes remaining contents g service window last (with_first track scene) (track ∷ rest) new fault
  causes_beside track last scene rest new fault (inl (same, still, u)) =
      inl (ap (λ xs. track ∷ xs) same, still, record { room = more_room (length scene.tracks) room window less u.room; unmade = u.unmade; waits = u.waits })
  causes_beside track last scene rest new fault (inr (inl c)) = inr (inl (c.0, with_after c.0 track rest scene.tracks c.1, c.2))
  causes_beside track last scene rest new fault (inr (inr c)) = inr (inr (c.0, c.1, with_after (IsDone c.0 c.1) track rest scene.tracks c.2, c.3, c.4, c.5))

  pub stops_beside : (track : Track I O) (opened : List (Opening I O)) (told : List Done) (old : Scene I O J) (rest : List (Track I O)) (new : State J) (fault : RunFault)
      → Stops remaining contents g service room opened told old rest new fault
      → Stops remaining contents g service window opened told (with_first track old) (track ∷ rest) new fault
  stops_beside track opened told old rest new fault s = record {
    first = s.first;
    last = s.last;
    between = with_first track s.between;
    moves = moves_beside track s.first told old s.between s.moves;
    opened_are = s.opened_are;
    causes = causes_beside track s.last s.between rest new fault s.causes;
  }

-- ---- looking through

module _ {I O J : Type 0} (remaining : I → Option (List ℕ)) (g : Ghosts J) (service : Service) where
  pub looks_more : (front back : List (Track I O)) (old between new : State J)
      → LooksThrough remaining g service front old between → LooksThrough remaining g service back between new → LooksThrough remaining g service (front ++ back) old new
  looks_more [] back old between new a b = subst (λ (s : State J). LooksThrough remaining g service back s new) a b
  looks_more (track ∷ front) back old between new a b = (a.0, a.1, a.2, looks_more front back a.1 between new a.3 b)
