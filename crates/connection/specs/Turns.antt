-- Connections that a provider served, one after another.
use Rattle.std.specs.Prelude.{◌≡◌, ◌≤◌, ◌+◌, ℕ, List, [], ◌∷◌, ◌++◌, length, Option, Result, Ok, Err}
use Rattle.std.specs.Result.{result_and}
use Rattle.provider_core.specs.declared.registry.Registry.{Ghosts}
use Rattle.provider_core.specs.Stores.{IsQuiet}
use Rattle.http_text.specs.Counts.{Reading, Writing, fresh_reading, fresh_writing}
use Rattle.connection.specs.declared.answering.Served.{Served}
use Rattle.connection.specs.declared.answering.Served.TheVariants.{Answered, NoRequest, Lost}
use Rattle.connection.specs.Serving.{IsReplied}
use Rattle.connection.specs.declared.serving.ConnectionFault.{ConnectionFault}
use Rattle.connection.specs.Listening.{Takes}

-- one turn of a listener: a connection was accepted and served, or none could be accepted
pub data Turn (I O : Type 0) : Type 0 where
  taken : (reader : I) (writer : O) (served : Served) → Turn I O
  unopened : Turn I O

-- ---- outcomes

-- a connection has no fault if a response was written whole
abbrev pub answered : Served → Result (Unit {0}) ConnectionFault
answered (Answered status) = Ok tt
answered (NoRequest why) = Err (record {})
answered (Lost status) = Err (record {})

abbrev pub turn_outcome : {I O : Type 0} → Turn I O → Result (Unit {0}) ConnectionFault
turn_outcome (taken reader writer served) = answered served
turn_outcome unopened = Err (record {})

-- all have no fault if each has none
abbrev pub outcome : {I O : Type 0} → List (Turn I O) → Result (Unit {0}) ConnectionFault
outcome [] = Ok tt
outcome (turn ∷ turns) = result_and (turn_outcome turn) (outcome turns)

-- ---- which connections were taken

abbrev pub opened : {I O : Type 0} → Turn I O → List (I × O)
opened (taken reader writer served) = (reader, writer) ∷ []
opened unopened = []

abbrev pub all_opened : {I O : Type 0} → List (Turn I O) → List (I × O)
all_opened [] = []
all_opened (turn ∷ turns) = opened turn ++ all_opened turns

-- ---- what the provider did

-- What a peer sent was read from the connection's start, and got this reply; the provider went from one state to the
-- other
pub record IsServed {I O R : Type 0} (remaining : I → Option (List ℕ)) (contents : O → Option (List ℕ)) (g : Ghosts R)
    (base : List ℕ) (old new : R) (reader : I) (writer : O) (served : Served) : Type 0 where
  pub left : Reading
  pub written : Writing
  pub replied : IsReplied g base old new (fresh_reading (remaining reader)) left
      (fresh_writing (contents writer)) written served
  pub quiet : IsQuiet g.is_faithful g.faults old new
  pub writes : g.writes new ≤ g.writes old + 1

module _ {I O R : Type 0} (remaining : I → Option (List ℕ)) (contents : O → Option (List ℕ))
    (g : Ghosts R) (base : List ℕ) where
  -- a turn without a connection leaves the provider as it is
  abbrev pub IsTurn : Turn I O → (old new : R) → Type 0
  IsTurn (taken reader writer served) old new = IsServed remaining contents g base old new reader writer served
  IsTurn unopened old new = new ≡ old

  -- each turn starts from the provider that the turn before left, and nothing else changes it
  abbrev pub AreTurns : List (Turn I O) → (old new : R) → Type 0
  AreTurns [] old new = new ≡ old
  AreTurns (turn ∷ turns) old new = (between : R) × IsTurn turn old between × AreTurns turns between new

-- one turn of a listener
pub record TakesTurn {L I O R : Type 0} (waiting : L → Option (List (I × O)))
    (remaining : I → Option (List ℕ)) (contents : O → Option (List ℕ)) (g : Ghosts R) (base : List ℕ)
    (before after : L) (old new : R) (result : Result (Unit {0}) ConnectionFault) : Type 0 where
  pub turn : Turn I O
  pub takes : Takes (waiting before) (waiting after) (opened turn)
  pub served : IsTurn remaining contents g base turn old new
  pub result_is : result ≡ turn_outcome turn

-- `count` turns of a listener, in the order in which its connections waited
pub record ServesTurns {L I O R : Type 0} (waiting : L → Option (List (I × O)))
    (remaining : I → Option (List ℕ)) (contents : O → Option (List ℕ)) (g : Ghosts R) (base : List ℕ)
    (before after : L) (old new : R) (count : ℕ) (result : Result (Unit {0}) ConnectionFault) : Type 0 where
  pub turns : List (Turn I O)
  pub count_is : length turns ≡ count
  pub takes : Takes (waiting before) (waiting after) (all_opened turns)
  pub served : AreTurns remaining contents g base turns old new
  pub result_is : result ≡ outcome turns
