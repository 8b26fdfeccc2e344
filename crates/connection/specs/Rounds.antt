-- Rounds: whoever is held when a round begins is passed in it, or leaves, before the next one begins.
use Rattle.std.specs.Prelude.{◌≡◌, ◌⊎◌, ◌≤◌, ◌<◌, ℕ, List, [], ◌∷◌, Option, Some}
use Rattle.std.specs.List.{slice_index_or}
use Rattle.std.specs.VecDeque.{deque_len}
use Rattle.std.specs.declared.time.Instant.{Instant}
use Rattle.connection.specs.declared.held.Held.{Held}
use Rattle.connection.specs.declared.waiting.Waiting.{Waiting}
use Rattle.connection.specs.Holding.{GivesUp, GivesUpFor, Holds, IsNoted, IsPassed, Leaves, Notes, StaysThere, Takes, round_end}
use Rattle.connection.specs.Leaving.{LooksApart, LooksApartAt}

-- all connections of the round that is under way were passed, or have left
abbrev pub IsRoundOver : {S : Type 0} → Waiting S → Type 0
IsRoundOver waiting = round_end waiting ≤ waiting.next

module _ {S : Type 0} (remaining : S → Option (List ℕ)) (most : ℕ) where
  -- the oldest was given up, because it had to make room
  abbrev pub LosesOldest : (old new : Waiting S) → Type 0
  LosesOldest old new = (now : Instant) × (GivesUp now old new ⊎ ((held : Held S) × GivesUpFor held now old new))

  -- one call that changes what is held, but begins no round
  abbrev pub IsCall : (old new : Waiting S) → Type 0
  IsCall old new =
      ((now : Instant) × (taken : Option (Held S)) × (¬ (IsRoundOver old)) × Takes remaining now most old new taken)
      ⊎ LosesOldest old new
      ⊎ ((held : Held S) × Holds held old new)
      ⊎ ((number : ℕ) × (now : Instant) × Notes number now old new)
      ⊎ ((gone : ℕ) × Leaves gone old new)
      ⊎ ((now : Instant) × (taken : Option (Held S)) × LooksApart remaining now old new taken)
      ⊎ ((new.connections.items ≡ old.connections.items) × StaysThere old new)

  -- calls from a moment within a round up to its end
  abbrev pub EndsRound : (old : Waiting S) → (later : List (Waiting S)) → Type 0
  EndsRound old [] = IsRoundOver old
  EndsRound old (new ∷ later) = IsCall old new × EndsRound new later

  -- a call met the connection at this place: it was passed, or taken out because it can be served, in its turn or outside
  -- of the rounds, or given up
  abbrev pub IsMet : (place : ℕ) → (old new : Waiting S) → Type 0
  IsMet place old new =
      ((now : Instant) × ((d : Held S) → IsPassed remaining now
      (slice_index_or old.connections.items place d) (slice_index_or new.connections.items place d)))
      ⊎ ((now : Instant) × (held : Held S) × (place ≡ new.next) × Takes remaining now most old new (Some held))
      ⊎ ((place ≡ 0) × LosesOldest old new)
      ⊎ Leaves place old new
      ⊎ ((now : Instant) × (held : Held S) × LooksApartAt remaining now place old new (Some held))

  -- A call left the connection at this place as it was, or noted that something may have come on it: it is at that
  -- place now, and its turn in the round comes
  abbrev pub IsLeft : (place place_then : ℕ) → (old new : Waiting S) → Type 0
  IsLeft place place_then old new = (new.next ≤ place_then) × (place_then < round_end new)
      × ((d : Held S) → (number : ℕ) × (now : Instant) × IsNoted number now
      (slice_index_or old.connections.items place d) (slice_index_or new.connections.items place_then d))

  -- one of the calls met the connection at this place, and those before it left it
  abbrev pub IsMetIn : (place : ℕ) → (old : Waiting S) → (later : List (Waiting S)) → Type 0
  IsMetIn place old [] = ⊥
  IsMetIn place old (new ∷ later) =
      IsMet place old new ⊎ ((place_then : ℕ) × IsLeft place place_then old new × IsMetIn place_then new later)

  -- Once a round is over, the next call begins another. From that call up to the end of that round, each connection
  -- that is held when it begins is met
  abbrev pub MeetsEverybody : Type 0
  MeetsEverybody = (old new : Waiting S) (now : Instant) (taken : Option (Held S)) (later : List (Waiting S))
      → IsRoundOver old → Takes remaining now most old new taken → EndsRound new later
      → (place : ℕ) → place < deque_len old.connections → IsMetIn place old (new ∷ later)
