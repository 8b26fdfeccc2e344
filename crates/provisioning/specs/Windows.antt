-- Many records at once: in which order anything of them may happen.
use Rattle.std.specs.Prelude.{◌≡◌, ◌⊎◌, ◌<◌, ℕ, suc, true, cond, nat_lt, List, [], ◌∷◌, ◌++◌, length, map, Option, Some, None, Result, Ok, Err}
use Rattle.scim_key.specs.declared.records.RecordName.{RecordName}
use Rattle.journal_core.specs.declared.journals.Journal.{Ghosts}
use Rattle.connector_core.specs.Book.{Book}
use Rattle.connector_core.specs.Maps.{book_of}
use Rattle.connector_core.specs.State.{State}
use Rattle.provisioning.specs.Exchanges.{IsUnmade}
use Rattle.provisioning.specs.Openings.{Opening}
use Rattle.provisioning.specs.Runs.{Done, IsUntold, NeverGivesUp, Tells, streak_of, tally_of}
use Rattle.provisioning.specs.Services.{Service}
use Rattle.provisioning.specs.Streaks.{go_on_after}
use Rattle.provisioning.specs.Tracks.{Advances, Begins, Closes, IsLearnt, fresh, faulted, may_wait, put_off}
use Rattle.provisioning.specs.declared.faults.RecordFault.{RecordFault}
use Rattle.provisioning.specs.declared.faults.RunFault.{RunFault}
use Rattle.provisioning.specs.declared.pushing.Tally.{Tally}
use Rattle.provisioning.specs.declared.records.Standing.{Standing}
use Rattle.provisioning.specs.declared.tracks.Account.{Account}
use Rattle.provisioning.specs.declared.tracks.Flight.{Flight}
use Rattle.provisioning.specs.declared.tracks.Track.{Track}
use Rattle.provisioning.specs.declared.tracks.Track.TheVariants as phases
use Rattle.provisioning.specs.declared.windows.Window.{Window}

-- ---- the records that were begun

abbrev pub account_of : {I O : Type 0} → Track I O → Account
account_of (phases.UnderWay a f) = a
account_of (phases.Delayed a) = a
account_of (phases.Done a standing) = a

abbrev pub name_of : {I O : Type 0} → Track I O → RecordName
name_of track = (account_of track).name

-- a record that is done, and its result
abbrev pub done_of : Account → Standing → Done
done_of a standing = (a.name, record { exchanges = a.exchanges; standing = standing })

-- it is among these, in any place, and the others are these
abbrev pub IsWith : {X : Type 0} → X → (others all : List X) → Type 0
IsWith {X} x others all = (front : List X) × (back : List X) × (all ≡ front ++ x ∷ back) × (others ≡ front ++ back)

-- the records that wait, those that were begun and aren't reported, and the connector
pub record Scene (I O J : Type 0) : Type 0 where
  pub waiting : List RecordName
  pub tracks : List (Track I O)
  pub state : State J

-- what a move leaves
pub record Point (I O J : Type 0) : Type 0 where
  pub opened : List (Opening I O)
  pub told : List Done
  pub scene : Scene I O J

-- the names of the records that aren't reported, in their order
abbrev pub names_in : {I O J : Type 0} → Scene I O J → List RecordName
names_in scene = map name_of scene.tracks ++ scene.waiting

-- this record is put first
abbrev pub with_first : {I O J : Type 0} → Track I O → Scene I O J → Scene I O J
with_first track scene = record { waiting = scene.waiting; tracks = track ∷ scene.tracks; state = scene.state }

-- these records wait, and none was begun
abbrev pub at_start : {I O J : Type 0} → List RecordName → State J → Scene I O J
at_start names state = record { waiting = names; tracks = []; state = state }

-- each answer that is under way is learnt from, one after another
abbrev pub LooksThrough : {I O J : Type 0} → (I → Option (List ℕ)) → Ghosts J → Service → List (Track I O)
    → (old new : State J) → Type 0
LooksThrough remaining g service [] old new = new ≡ old
LooksThrough {J = J} remaining g service (track ∷ tracks) old new =
    (result : Result (Unit {0}) RunFault) × (between : State J) × Closes remaining g service track old between result
    × LooksThrough remaining g service tracks between new

-- ---- how many records

-- how many records may be begun beside the first that isn't reported, if so many exchanges may be under way at once
abbrev pub beside : (streams : ℕ) → ℕ
beside streams = cond (nat_lt 1 streams) 1024 0

-- how many records may be begun and not reported
abbrev pub window_of : (streams : ℕ) → ℕ
window_of streams = suc (beside streams)

module _ {I O J : Type 0} (remaining : I → Option (List ℕ))
    (contents : O → Option (List ℕ)) (g : Ghosts J) (service : Service) (window : ℕ) where
  -- ---- one move

  -- the first record that waits is begun, if fewer than `window` were begun and aren't reported
  pub record IsBegun (opened : List (Opening I O)) (told : List Done) (old new : Scene I O J) : Type 0 where
    pub name : RecordName
    pub track : Track I O
    pub room : length old.tracks < window
    pub waiting : old.waiting ≡ name ∷ new.waiting
    pub tracks : IsWith track old.tracks new.tracks
    pub begins : Begins contents service (fresh name) opened (book_of old.state.book) track
    pub told_none : told ≡ []
    pub state : new.state ≡ old.state

  -- the answer of a record that is under way is learnt from, and the record goes on
  pub record IsContinued (opened : List (Opening I O)) (told : List Done) (old new : Scene I O J) : Type 0 where
    pub account : Account
    pub flight : Flight I O
    pub fault : Option RecordFault
    pub track : Track I O
    pub others : List (Track I O)
    pub before : IsWith (phases.UnderWay account flight) others old.tracks
    pub after : IsWith track others new.tracks
    pub learnt : IsLearnt remaining g service flight old.state new.state (Ok fault)
    pub begins : Begins contents service (faulted fault account) opened (book_of new.state.book) track
    pub told_none : told ≡ []
    pub waiting : new.waiting ≡ old.waiting

  -- the answer of a record that is under way is learnt from, and the record waits, since the provider is busy
  pub record IsDelayed (opened : List (Opening I O)) (told : List Done) (old new : Scene I O J) : Type 0 where
    pub account : Account
    pub flight : Flight I O
    pub fault : Option RecordFault
    pub others : List (Track I O)
    pub before : IsWith (phases.UnderWay account flight) others old.tracks
    pub after : IsWith (phases.Delayed (put_off (faulted fault account))) others new.tracks
    pub learnt : IsLearnt remaining g service flight old.state new.state (Ok fault)
    pub may : may_wait fault account ≡ true
    pub opened_none : opened ≡ []
    pub told_none : told ≡ []
    pub waiting : new.waiting ≡ old.waiting

  -- a record that waited goes on
  pub record IsResumed (opened : List (Opening I O)) (told : List Done) (old new : Scene I O J) : Type 0 where
    pub account : Account
    pub track : Track I O
    pub others : List (Track I O)
    pub before : IsWith (phases.Delayed account) others old.tracks
    pub after : IsWith track others new.tracks
    pub begins : Begins contents service account opened (book_of old.state.book) track
    pub told_none : told ≡ []
    pub state : new.state ≡ old.state
    pub waiting : new.waiting ≡ old.waiting

  -- a record that is done is reported
  pub record IsReported (opened : List (Opening I O)) (told : List Done) (old new : Scene I O J) : Type 0 where
    pub account : Account
    pub standing : Standing
    pub tracks : IsWith (phases.Done account standing) new.tracks old.tracks
    pub opened_none : opened ≡ []
    pub told_is : told ≡ done_of account standing ∷ []
    pub state : new.state ≡ old.state
    pub waiting : new.waiting ≡ old.waiting

  -- a record is put in another place, which has no meaning
  pub record IsMoved (opened : List (Opening I O)) (told : List Done) (old new : Scene I O J) : Type 0 where
    pub track : Track I O
    pub others : List (Track I O)
    pub before : IsWith track others old.tracks
    pub after : IsWith track others new.tracks
    pub opened_none : opened ≡ []
    pub told_none : told ≡ []
    pub state : new.state ≡ old.state
    pub waiting : new.waiting ≡ old.waiting

  abbrev pub IsMove : (opened : List (Opening I O)) → (told : List Done) → (old new : Scene I O J) → Type 0
  IsMove opened told old new = IsBegun opened told old new ⊎ (IsContinued opened told old new
      ⊎ (IsDelayed opened told old new ⊎ (IsResumed opened told old new
      ⊎ (IsReported opened told old new ⊎ IsMoved opened told old new))))

  -- ---- many moves

  -- moves, one after another, each on what the one before left; the openings and the reports are theirs, in order
  abbrev pub AreMoves : List (Point I O J) → (opened : List (Opening I O)) → (told : List Done)
      → (old new : Scene I O J) → Type 0
  AreMoves [] opened told old new = (opened ≡ []) × (told ≡ []) × (new ≡ old)
  AreMoves (p ∷ ps) opened told old new =
      (others : List (Opening I O)) × (more : List Done) × (opened ≡ p.opened ++ others) × (told ≡ p.told ++ more)
      × IsMove p.opened p.told old p.scene × AreMoves ps others more p.scene new

  abbrev pub Moves : (opened : List (Opening I O)) → (told : List Done) → (old new : Scene I O J) → Type 0
  Moves opened told old new = (points : List (Point I O J)) × AreMoves points opened told old new

  -- ---- what ends a run

  -- there was room for the next record, but no stream was opened for it, or memory ran out
  pub record IsUnbegun (last : List (Opening I O)) (scene : Scene I O J) (fault : RunFault) : Type 0 where
    pub room : length scene.tracks < window
    pub unmade : IsUnmade last fault
    pub waits : (last ≡ []) ⊎ ((name : RecordName) × (later : List RecordName) × (scene.waiting ≡ name ∷ later))

  -- The cause of a fault: the next record couldn't be begun; or a record that was under way, or waited, couldn't go on,
  -- or learning from its answer ended the run; or a record that is done couldn't be reported. The others are these
  abbrev pub Causes : (last : List (Opening I O)) → Scene I O J → (rest : List (Track I O)) → (new : State J)
      → RunFault → Type 0
  Causes last scene rest new fault =
      ((rest ≡ scene.tracks) × (new ≡ scene.state) × IsUnbegun last scene fault)
      ⊎ (((track : Track I O) × IsWith track rest scene.tracks
      × Advances remaining contents g service track last scene.state new (Err fault))
      ⊎ ((account : Account) × (standing : Standing) × IsWith (phases.Done account standing) rest scene.tracks
      × (last ≡ []) × (new ≡ scene.state) × IsUntold fault))

  -- moves, until this fault ended the run
  pub record Stops (opened : List (Opening I O)) (told : List Done) (old : Scene I O J) (rest : List (Track I O))
      (new : State J) (fault : RunFault) : Type 0 where
    pub first : List (Opening I O)
    pub last : List (Opening I O)
    pub between : Scene I O J
    pub moves : Moves first told old between
    pub opened_are : opened ≡ first ++ last
    pub causes : Causes last between rest new fault

  -- A record that is done was reported after moves, and with it the streak reached the limit, which ended the run. The
  -- other records are these
  pub record GivesUp (limit : ℕ) (opened : List (Opening I O)) (told : List Done) (old : Scene I O J)
      (rest : List (Track I O)) (new : State J) (fault : RunFault) : Type 0 where
    pub earlier : List Done
    pub account : Account
    pub standing : Standing
    pub between : Scene I O J
    pub moves : Moves opened earlier old between
    pub tracks : IsWith (phases.Done account standing) rest between.tracks
    pub told_are : told ≡ earlier ++ done_of account standing ∷ []
    pub state : new ≡ between.state
    pub never : NeverGivesUp limit earlier
    pub gives_up : go_on_after limit (streak_of told) ≡ Err fault

  -- what ended a run that has reported these records
  abbrev pub Breaks : (limit : ℕ) → (opened : List (Opening I O)) → (told : List Done) → (old : Scene I O J)
      → (rest : List (Track I O)) → (new : State J) → RunFault → Type 0
  Breaks limit opened told old rest new fault =
      (Stops opened told old rest new fault × NeverGivesUp limit told) ⊎ GivesUp limit opened told old rest new fault

  -- ---- the steps of a run

  -- moves without reports, which keep the order; or a fault after some
  abbrev pub Goes : (opened : List (Opening I O)) → (old new : Scene I O J) → Result (Unit {0}) RunFault → Type 0
  Goes opened old new (Ok done) = Moves opened [] old new × (names_in new ≡ names_in old)
  Goes opened old new (Err fault) = Stops opened [] old new.tracks new.state fault

  -- the first record that isn't reported was taken, and begun if need be; or there is none; or it couldn't be begun
  abbrev pub TakesFirst : (opened : List (Opening I O)) → (old new : Scene I O J)
      → Result (Option (Track I O)) RunFault → Type 0
  TakesFirst opened old new (Ok (Some track)) = Moves opened [] old (with_first track new)
      × (name_of track ∷ names_in new ≡ names_in old)
  TakesFirst opened old new (Ok None) = (opened ≡ []) × (new ≡ old) × (names_in old ≡ []) × (new.tracks ≡ [])
      × (new.waiting ≡ [])
  TakesFirst opened old new (Err fault) = Stops opened [] old new.tracks new.state fault

  -- a fault ended the run; some of the records that were begun were looked through, and the others are left
  abbrev pub Leaves : (opened : List (Opening I O)) → (told : List Done) → (old new : Scene I O J) → RunFault → Type 0
  Leaves opened told old new fault =
      (front : List (Track I O)) × (between : State J) × Stops opened told old (front ++ new.tracks) between fault
      × LooksThrough remaining g service front between new.state

  -- the first record is done
  pub record IsFinished (opened : List (Opening I O)) (first : Track I O) (old new : Scene I O J)
      (done : Done) : Type 0 where
    pub account : Account
    pub standing : Standing
    pub done_is : done ≡ done_of account standing
    pub name_is : account.name ≡ name_of first
    pub moves : Moves opened [] (with_first first old) (with_first (phases.Done account standing) new)
    pub names : names_in new ≡ names_in old

  abbrev pub Finishes : (opened : List (Opening I O)) → (first : Track I O) → (old new : Scene I O J)
      → Result Done RunFault → Type 0
  Finishes opened first old new (Ok done) = IsFinished opened first old new done
  Finishes opened first old new (Err fault) = Leaves opened [] (with_first first old) new fault

  -- all records were reported, in their order, and counted
  pub record IsThrough (limit : ℕ) (opened : List (Opening I O)) (old new : Scene I O J)
      (before after : Option (List Done)) (tally : Tally) : Type 0 where
    pub done : List Done
    pub names_are : map (λ d. d.0) done ≡ names_in old
    pub moves : Moves opened done old new
    pub none : (new.tracks ≡ []) × (new.waiting ≡ [])
    pub tells : Tells before after done
    pub tally_is : tally ≡ tally_of done
    pub never : NeverGivesUp limit done

  abbrev pub PushesThrough : (limit : ℕ) → (opened : List (Opening I O)) → (old new : Scene I O J)
      → (before after : Option (List Done)) → Result Tally RunFault → Type 0
  PushesThrough limit opened old new before after (Ok tally) = IsThrough limit opened old new before after tally
  PushesThrough limit opened old new before after (Err fault) = (told : List Done)
      × ((Leaves opened told old new fault × NeverGivesUp limit told)
      ⊎ GivesUp limit opened told old new.tracks new.state fault)

  -- ---- a run

  -- each of these records was reported, in this order, and counted
  pub record AllMoved (limit : ℕ) (names : List RecordName) (opened : List (Opening I O)) (old new : State J)
      (before after : Option (List Done)) (tally : Tally) : Type 0 where
    pub done : List Done
    pub names_are : map (λ d. d.0) done ≡ names
    pub moves : Moves opened done (at_start names old) (at_start [] new)
    pub tells : Tells before after done
    pub tally_is : tally ≡ tally_of done
    pub never : NeverGivesUp limit done

  -- a fault ended the run; then each answer that was under way was learnt from
  pub record PartMoved (limit : ℕ) (names : List RecordName) (opened : List (Opening I O)) (old new : State J)
      (fault : RunFault) : Type 0 where
    pub done : List Done
    pub rest : List (Track I O)
    pub between : State J
    pub breaks : Breaks limit opened done (at_start names old) rest between fault
    pub looked : LooksThrough remaining g service rest between new

  abbrev pub PushesAbreast : (limit : ℕ) → (names : List RecordName) → (opened : List (Opening I O))
      → (old new : State J) → (before after : Option (List Done)) → Result Tally RunFault → Type 0
  PushesAbreast limit names opened old new before after (Ok tally) =
      AllMoved limit names opened old new before after tally
  PushesAbreast limit names opened old new before after (Err fault) = PartMoved limit names opened old new fault

-- ---- what the functions give

-- the window and the connector, as a scene
abbrev pub scene_of : {I O J : Type 0} → Window I O → State J → Scene I O J
scene_of window state = record { waiting = window.waiting.items; tracks = window.tracks.items; state = state }

-- the first of the names that wait was begun; or none waits; or it couldn't be begun
abbrev pub BeginsNext : {I O : Type 0} → (O → Option (List ℕ)) → Service → (opened : List (Opening I O))
    → (waiting later : List RecordName) → Book → Result (Option (Track I O)) RunFault → Type 0
BeginsNext contents service opened waiting later book (Ok (Some track)) = (name : RecordName)
    × (waiting ≡ name ∷ later) × Begins contents service (fresh name) opened book track
BeginsNext contents service opened waiting later book (Ok None) = (opened ≡ []) × (waiting ≡ []) × (later ≡ [])
BeginsNext contents service opened waiting later book (Err fault) = (name : RecordName)
    × (waiting ≡ name ∷ later) × IsUnmade opened fault

-- a record is given back; or after a fault it was closed
abbrev pub KeepsTrack : {I O J : Type 0} → (I → Option (List ℕ)) → Ghosts J → Service → Track I O
    → (beside : Result (Unit {0}) RunFault) → (old new : State J) → Result (Track I O) RunFault → Type 0
KeepsTrack remaining g service track (Ok done) old new result = (new ≡ old) × (result ≡ Ok track)
KeepsTrack remaining g service track (Err fault) old new result = (closed : Result (Unit {0}) RunFault)
    × Closes remaining g service track old new closed × (result ≡ Err fault)
