-- Who leaves to make room, and what one look more has found of it.
use Rattle.std.specs.Prelude.{◌≡◌, ◌⊎◌, ◌+◌, ◌≤◌, ◌<◌, ℕ, List, Option, None, Some, false, true}
use Rattle.std.specs.List.{slice_index_or}
use Rattle.std.specs.VecDeque.{deque_len}
use Rattle.std.specs.declared.time.Instant.{Instant}
use Rattle.connection.specs.declared.held.Held.{Held}
use Rattle.connection.specs.declared.leaving.Leaver.{Leaver}
use Rattle.connection.specs.declared.leaving.Leaver.TheVariants.{Nobody, Ready, Closed}
use Rattle.connection.specs.declared.waiting.Waiting.{Waiting}
use Rattle.connection.specs.Holding.{GivesUp, GivesUpFor, GivesUpLargest, HasRoom, Holds, IsDue, Leaves, Looks, LooksAt, StaysThere, is_time}
use Rattle.connection.specs.Memory.{memory_of}

-- what the requests of all of them take leaves room for what comes in one call; or there are none
abbrev pub HasMemory : {S : Type 0} → (most : ℕ) → Waiting S → Type 0
HasMemory most waiting = (deque_len waiting.connections ≡ 0) ⊎ (memory_of waiting.connections.items ≤ most)

-- who is next: a leaver that can be served, or who was next before
abbrev pub IsNextAfter : {S : Type 0} → (before found : Option (Held S)) → Leaver S → Type 0
IsNextAfter before found Nobody = found ≡ before
IsNextAfter before found (Ready held) = found ≡ Some held
IsNextAfter before found Closed = found ≡ before

module _ {S : Type 0} (remaining : S → Option (List ℕ)) where
  -- A connection that has to make room: one look more has found that it can be served; or it was closed. What was looked
  -- for before that isn't said
  abbrev pub LooksLast : (old : Held S) → Leaver S → Type 0
  LooksLast old Nobody = ⊥
  LooksLast old (Ready held) = Looks remaining old held true
  LooksLast old Closed = Unit {0}

  -- the oldest connection left after one look more, if it has had its time
  abbrev pub Releases : (now : Instant) → (old new : Waiting S) → Leaver S → Type 0
  Releases now old new Nobody = (new ≡ old) × (IsDue old.connections.items now → ⊥)
  Releases now old new (Ready held) = (gives : GivesUp now old new) × LooksLast gives.oldest (Ready held)
  Releases now old new Closed = (gives : GivesUp now old new) × LooksLast gives.oldest Closed

  -- This connection is held. If there was no place for it, the oldest one left after one look more. Or this one isn't
  -- held: out of memory (`is_tight`), or there is no room
  abbrev pub Places : (most : ℕ) → Held S → (now : Instant) → (old new : Waiting S) → (is_tight : Type 0)
      → Leaver S → Type 0
  Places most held now old new is_tight Nobody = Holds held old new
  Places most held now old new is_tight (Ready oldest) =
      (gives : GivesUpFor held now old new) × LooksLast gives.oldest (Ready oldest)
  Places most held now old new is_tight Closed =
      ((new.connections.items ≡ old.connections.items) × StaysThere old new
      × (is_tight ⊎ (HasRoom most old.connections.items now → ⊥)))
      ⊎ ((gives : GivesUpFor held now old new) × LooksLast gives.oldest Closed)

  -- the connection whose request takes most memory left after one look more
  abbrev pub ReleasesLargest : (old new : Waiting S) → Leaver S → Type 0
  ReleasesLargest old new leaver = (gives : GivesUpLargest old new)
      × ((d : Held S) → LooksLast (slice_index_or old.connections.items gives.0 d) leaver)

  -- the largest one left exactly if the requests of all, and those of others, take more memory than this
  abbrev pub FreesMemory : (most others : ℕ) → (old new : Waiting S) → Leaver S → Type 0
  FreesMemory most others old new Nobody = (new ≡ old) × ((deque_len old.connections ≡ 0)
      ⊎ (others + memory_of old.connections.items ≤ most))
  FreesMemory most others old new (Ready held) = (most < others + memory_of old.connections.items)
      × ReleasesLargest old new (Ready held)
  FreesMemory most others old new Closed = (most < others + memory_of old.connections.items)
      × ReleasesLargest old new Closed

  -- The connection at this place was looked at outside of the rounds, since it was time to. It was taken out if it can be
  -- served (`seen` has it still)
  abbrev pub LooksApartAt : (now : Instant) → (place : ℕ) → (old new : Waiting S) → Option (Held S) → Type 0
  LooksApartAt now place old new None = ((d : Held S) → is_time now (slice_index_or old.connections.items place d) ≡ true)
      × LooksAt remaining place old.connections.items new.connections.items false × StaysThere old new
  LooksApartAt now place old new (Some held) = (seen : Waiting S)
      × LooksAt remaining place old.connections.items seen.connections.items true × StaysThere old seen
      × Leaves place seen new × ((d : Held S) → held ≡ slice_index_or seen.connections.items place d)

  -- one of the connections was, or none
  abbrev pub LooksApart : (now : Instant) → (old new : Waiting S) → Option (Held S) → Type 0
  LooksApart now old new taken = ((place : ℕ) × LooksApartAt now place old new taken) ⊎ ((new ≡ old) × (taken ≡ None))

  -- At most one connection left to make room, the oldest, after one look more. If it can be served, it is next
  abbrev pub MakesRoom : (now : Instant) → (old new : Waiting S) → (before found : Option (Held S)) → Type 0
  MakesRoom now old new before found = (leaver : Leaver S)
      × (((new ≡ old) × (leaver ≡ Nobody)) ⊎ ((gives : GivesUp now old new) × LooksLast gives.oldest leaver))
      × IsNextAfter before found leaver
