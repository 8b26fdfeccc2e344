-- A run of many records takes no confirmed revision back.
use Rattle.std.proofs.Common.{◌≡◌, ℕ, List, [], ◌∷◌, take, drop, Option, Result, Ok, Err, inl, inr, ap, sym, ◌∙◌, subst}
use Rattle.std.specs.List.{prefix_len}
use Rattle.journal_core.specs.declared.journals.Journal.{Ghosts}
use Rattle.connector_core.specs.State.{State}
use Rattle.provisioning.proofs.OnwardLemmas.{becomes_onward, onward_more, onward_still}
use Rattle.provisioning.specs.Abreast.{PushesBoth, groups_of, is_user, users_of}
use Rattle.provisioning.specs.Onward.{Onward}
use Rattle.provisioning.specs.Openings.{Opening}
use Rattle.provisioning.specs.Runs.{Done}
use Rattle.provisioning.specs.Services.{Service}
use Rattle.provisioning.specs.Tracks.{Advances, Closes, IsLearnt}
use Rattle.provisioning.specs.Windows.{AreMoves, Breaks, Causes, IsMove, LooksThrough, Point, PushesAbreast, Scene}
use Rattle.provisioning.specs.declared.faults.RecordFault.{RecordFault}
use Rattle.provisioning.specs.declared.faults.RunFault.{RunFault}
use Rattle.provisioning.specs.declared.pushing.Tally.{Tally}
use Rattle.provisioning.specs.declared.tracks.Flight.{Flight}
use Rattle.provisioning.specs.declared.tracks.Track.{Track}
use Rattle.provisioning.specs.declared.tracks.Track.TheVariants.{UnderWay, Delayed, Done as IsDone}
use Rattle.scim_key.specs.declared.records.RecordName.{RecordName}

module _ {I O J : Type 0} (remaining : I → Option (List ℕ)) (contents : O → Option (List ℕ)) (g : Ghosts J) (service : Service) (window : ℕ) where
  same_onward : (old new : State J) → new ≡ old → Onward old.book new.book
  same_onward old new same = subst (λ (s : State J). Onward old.book s.book) (sym same) (onward_still old.book)

  learnt_onward : (f : Flight I O) (old new : State J) (result : Result (Option RecordFault) RunFault) → IsLearnt remaining g service f old new result → Onward old.book new.book
  learnt_onward f old new result l = becomes_onward g service f.request l.came old new l.becomes

  move_onward : (opened : List (Opening I O)) (told : List Done) (old new : Scene I O J) → IsMove remaining contents g service window opened told old new → Onward old.state.book new.state.book
  move_onward opened told old new (inl b) = same_onward old.state new.state b.state
  move_onward opened told old new (inr (inl c)) = learnt_onward c.flight old.state new.state (Ok c.fault) c.learnt
  move_onward opened told old new (inr (inr (inl d))) = learnt_onward d.flight old.state new.state (Ok d.fault) d.learnt
  move_onward opened told old new (inr (inr (inr (inl r)))) = same_onward old.state new.state r.state
  move_onward opened told old new (inr (inr (inr (inr (inl r))))) = same_onward old.state new.state r.state
  move_onward opened told old new (inr (inr (inr (inr (inr m))))) = same_onward old.state new.state m.state

  moves_onward : (ps : List (Point I O J)) (opened : List (Opening I O)) (told : List Done) (old new : Scene I O J) → AreMoves remaining contents g service window ps opened told old new → Onward old.state.book new.state.book
  moves_onward [] opened told old new (a, b, same) = same_onward old.state new.state (ap (λ (s : Scene I O J). s.state) same)
  moves_onward (p ∷ ps) opened told old new m =
      onward_more old.state.book p.scene.state.book new.state.book (move_onward p.opened p.told old p.scene m.4) (moves_onward ps m.0 m.1 p.scene new m.5)

  advances_onward : (track : Track I O) (opened : List (Opening I O)) (old new : State J) (result : Result (Track I O) RunFault) → Advances remaining contents g service track opened old new result → Onward old.book new.book
  advances_onward (UnderWay a f) opened old new result (inl c) = learnt_onward f old new (Ok c.fault) c.learnt
  advances_onward (UnderWay a f) opened old new result (inr (inl d)) = learnt_onward f old new (Ok d.fault) d.learnt
  advances_onward (UnderWay a f) opened old new result (inr (inr e)) = learnt_onward f old new (Err e.0) e.1
  advances_onward (Delayed a) opened old new result (same, goes) = same_onward old new same
  advances_onward (IsDone a standing) opened old new result (none, same, is) = same_onward old new same

  causes_onward : (last : List (Opening I O)) (scene : Scene I O J) (rest : List (Track I O)) (new : State J) (fault : RunFault) → Causes remaining contents g service window last scene rest new fault → Onward scene.state.book new.book
  causes_onward last scene rest new fault (inl c) = same_onward scene.state new c.1
  causes_onward last scene rest new fault (inr (inl c)) = advances_onward c.0 last scene.state new (Err fault) c.2
  causes_onward last scene rest new fault (inr (inr c)) = same_onward scene.state new c.4

  closes_onward : (track : Track I O) (old new : State J) (result : Result (Unit {0}) RunFault) → Closes remaining g service track old new result → Onward old.book new.book
  closes_onward (UnderWay a f) old new (Ok done) c = learnt_onward f old new (Ok c.0) c.1
  closes_onward (UnderWay a f) old new (Err fault) c = learnt_onward f old new (Err fault) c
  closes_onward (Delayed a) old new result c = same_onward old new c.0
  closes_onward (IsDone a standing) old new result c = same_onward old new c.0

  looks_onward : (tracks : List (Track I O)) (old new : State J) → LooksThrough remaining g service tracks old new → Onward old.book new.book
  looks_onward [] old new same = same_onward old new same
  looks_onward (track ∷ tracks) old new l = onward_more old.book l.1.book new.book (closes_onward track old l.1 l.0 l.2) (looks_onward tracks l.1 new l.3)

  breaks_onward : (limit : ℕ) (opened : List (Opening I O)) (told : List Done) (old : Scene I O J) (rest : List (Track I O)) (new : State J) (fault : RunFault)
      → Breaks remaining contents g service window limit opened told old rest new fault → Onward old.state.book new.book
  breaks_onward limit opened told old rest new fault (inl (s, never)) =
      onward_more old.state.book s.between.state.book new.book
      (moves_onward s.moves.0 s.first told old s.between s.moves.1) (causes_onward s.last s.between rest new fault s.causes)
  breaks_onward limit opened told old rest new fault (inr u) =
      subst (λ (s : State J). Onward old.state.book s.book) (sym u.state) (moves_onward u.moves.0 opened u.earlier old u.between u.moves.1)

  pub abreast_onward : (limit : ℕ) (names : List RecordName) (opened : List (Opening I O)) (old new : State J) (before after : Option (List Done)) (result : Result Tally RunFault)
      → PushesAbreast remaining contents g service window limit names opened old new before after result → Onward old.book new.book
  abreast_onward limit names opened old new before after (Ok tally) all = moves_onward all.moves.0 opened all.done _ _ all.moves.1
  abreast_onward limit names opened old new before after (Err fault) part =
      onward_more old.book part.between.book new.book (breaks_onward limit opened part.done _ part.rest part.between fault part.breaks) (looks_onward part.rest part.between new part.looked)

  pub both_onward : (limit : ℕ) (users groups : List RecordName) (opened : List (Opening I O)) (old new : State J) (before after : Option (List Done)) (result : Result Tally RunFault)
      → PushesBoth remaining contents g service window limit users groups opened old new before after result → Onward old.book new.book
  both_onward limit users groups opened old new before after result (inl (first, last, between, then, tally, more, opened_are, all, rest, is)) =
      onward_more old.book between.book new.book (abreast_onward limit users first old between before then (Ok tally) all) (abreast_onward limit groups last between new then after more rest)
  both_onward limit users groups opened old new before after result (inr (fault, part, is)) = abreast_onward limit users opened old new before after (Err fault) part

  -- users and groups, split by their count
  pub both_of : (limit : ℕ) (names all users groups : List RecordName) (count : ℕ) (opened : List (Opening I O)) (old new : State J) (before after : Option (List Done)) (result : Result Tally RunFault)
      → all ≡ names → users ≡ take count all → groups ≡ drop count all → count ≡ prefix_len is_user names → PushesBoth remaining contents g service window limit users groups opened old new before after result
      → PushesBoth remaining contents g service window limit (users_of names) (groups_of names) opened old new before after result
  both_of limit names all users groups count opened old new before after result same front back counted b =
      let users_are : users ≡ users_of names = front ∙ ap (λ (xs : List RecordName). take count xs) same ∙ ap (λ (n : ℕ). take n names) counted in
      let groups_are : groups ≡ groups_of names = back ∙ ap (λ (xs : List RecordName). drop count xs) same ∙ ap (λ (n : ℕ). drop n names) counted in
      subst (λ (xs : List RecordName). PushesBoth remaining contents g service window limit xs (groups_of names) opened old new before after result) users_are
      (subst (λ (xs : List RecordName). PushesBoth remaining contents g service window limit users xs opened old new before after result) groups_are b)
