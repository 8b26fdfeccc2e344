-- Connections that are held until their requests are whole: what a look does, which one is served next, and which one
-- makes room.
use Rattle.std.specs.Prelude.{◌≡◌, ◌≢◌, ◌⊎◌, ◌+◌, ◌-◌, ◌≤◌, ◌<◌, ℕ, suc, Bool, IsTrue, List, [], ◌∷◌, ◌++◌, ⊤}
use Rattle.std.specs.Prelude.{false, true, length, min, take, Option, Some, None, if◌then◌else◌, nat_lt, nat_le}
use Rattle.std.specs.List.{remove, slice_index_or, sum_by}
use Rattle.std.specs.VecDeque.{deque_len}
use Rattle.std.specs.Io.KnownBytes.{Keeps, prepend_known}
use Rattle.std.specs.Time.{instant_nanos}
use Rattle.std.specs.declared.time.Instant.{Instant}
use Rattle.connection.specs.declared.held.Held.{Held}
use Rattle.connection.specs.declared.held.Arrival.{Arrival}
use Rattle.connection.specs.declared.held.Arrival.TheVariants.{Bytes, Nothing, Last}
use Rattle.connection.specs.declared.received.Received.{Received}
use Rattle.connection.specs.declared.waiting.Waiting.{Waiting}
use Rattle.connection.specs.Arriving.{Waits}
use Rattle.connection.specs.Limits.{granted}
use Rattle.connection.specs.Memory.{size_of}

-- ---- one look

-- what was found of the bytes that came: they wait for more, or there are none
abbrev pub HasCome : (old new : Received) → Arrival → Type 0
HasCome old new Bytes = ∥ Waits new.bytes.items ∥₁
HasCome old new Nothing = new.bytes.items ≡ old.bytes.items
HasCome old new Last = ⊤

-- what no look at a connection changes
pub record IsSame {S : Type 0} (old new : Held S) : Type 0 where
  pub number : new.number ≡ old.number
  pub deadline : new.deadline ≡ old.deadline
  pub accepted : new.accepted ≡ old.accepted

-- it is time for the next look as soon as it was, or at the deadline
abbrev pub IsLookedAtBy : {S : Type 0} → (old new : Held S) → Type 0
IsLookedAtBy old new = (new.next ≡ old.next) ⊎ (new.next ≡ old.deadline.end)

-- A connection isn't served after a look: it gave no bytes, or its request isn't whole. The next look is set
pub record IsPutBack {S : Type 0} (old new : Held S) : Type 0 where
  pub waits : (new.received.bytes.items ≡ old.received.bytes.items) ⊎ ∥ Waits new.received.bytes.items ∥₁
  pub next : IsLookedAtBy old new

-- What a look leaves: the bytes that were received, and then those of the stream, are the same from the first on
pub record Looks {S : Type 0} (remaining : S → Option (List ℕ)) (old new : Held S) (is_ready : Bool) : Type 0 where
  pub bytes : Keeps (prepend_known old.received.bytes.items (remaining old.stream))
      (prepend_known new.received.bytes.items (remaining new.stream))
  pub number : new.number ≡ old.number
  pub deadline : new.deadline ≡ old.deadline
  pub accepted : new.accepted ≡ old.accepted
  pub put_back : IsTrue is_ready ⊎ IsPutBack old new

-- it is time to look at a connection
abbrev pub is_time : {S : Type 0} → (now : Instant) → Held S → Bool
is_time now held = nat_le (instant_nanos held.next) (instant_nanos now)

-- a connection is passed: it is looked at if it is time to, and can't be served
abbrev pub IsPassed : {S : Type 0} → (remaining : S → Option (List ℕ)) → (now : Instant) → (old new : Held S) → Type 0
IsPassed remaining now old new =
    ((is_time now old ≡ true) × Looks remaining old new false) ⊎ ((is_time now old ≡ false) × (new ≡ old))

-- how many of the connections before a place it is time to look at
abbrev pub looks_before : {S : Type 0} → (now : Instant) → (place : ℕ) → List (Held S) → ℕ
looks_before now place connections = sum_by (λ held. if is_time now held then 1 else 0) (take place connections)

-- ---- all of them, in the order in which they were accepted

-- the connection at this place was looked at, and no other
pub record LooksAt {S : Type 0} (remaining : S → Option (List ℕ)) (place : ℕ) (old new : List (Held S))
    (is_ready : Bool) : Type 0 where
  pub there : (d : Held S) → Looks remaining (slice_index_or old place d) (slice_index_or new place d) is_ready
  pub others : (n : ℕ) (d : Held S) → n ≢ place → slice_index_or new n d ≡ slice_index_or old n d
  pub length : length new ≡ length old

module _ {S : Type 0} (remaining : S → Option (List ℕ)) (now : Instant) where
  -- the connections from a place up to another were passed in turn
  abbrev pub ArePassed : (first end : ℕ) → (old new : List (Held S)) → Type 0
  ArePassed first end old new = (n : ℕ) (d : Held S) → first ≤ n → n < end →
      IsPassed remaining now (slice_index_or old n d) (slice_index_or new n d)

  -- From a place up to the end of the round, the first connection that can be served was taken out, and those before it
  -- were passed. Or none was: all of these were passed, or as many of them as `most` looks allow. The others stay as
  -- they were. The place to go on with, `next`, is the first that wasn't passed
  abbrev pub TakesFirst : (most first end next : ℕ) → (old new : List (Held S)) → Option (Held S) → Type 0
  TakesFirst most first end next old new None =
      (first ≤ next) × (next ≤ end)
      × ((next ≡ end) ⊎ (looks_before now first old + most ≡ looks_before now next old))
      × (looks_before now next old ≤ looks_before now first old + most)
      × ArePassed first next old new
      × ((n : ℕ) (d : Held S) → (n < first) ⊎ (next ≤ n) → slice_index_or new n d ≡ slice_index_or old n d)
      × (length new ≡ length old)
  TakesFirst most first end next old new (Some held) =
      (first ≤ next) × (next < end)
      × (looks_before now next old < looks_before now first old + most)
      × ArePassed first next old new
      × ((n : ℕ) (d : Held S) → n < first → slice_index_or new n d ≡ slice_index_or old n d)
      × ((d : Held S) → Looks remaining (slice_index_or old next d) held true)
      × ((n : ℕ) (d : Held S) → next ≤ n → n < length new → slice_index_or new n d ≡ slice_index_or old (suc n) d)
      × (length new + 1 ≡ length old)

-- ---- rounds

-- where the round ends that is under way: before the connections that joined since it began
abbrev pub round_end : {S : Type 0} → Waiting S → ℕ
round_end waiting = min waiting.end (deque_len waiting.connections)

-- the place with which a call begins: it goes on with the round, or begins another with the first connection
abbrev pub first_of : {S : Type 0} → Waiting S → ℕ
first_of waiting = if nat_lt waiting.next (round_end waiting) then waiting.next else 0

-- where the round of that call ends: another round has all connections that are held when it begins
abbrev pub end_of : {S : Type 0} → Waiting S → ℕ
end_of waiting = if nat_lt waiting.next (round_end waiting) then round_end waiting else deque_len waiting.connections

-- how many connections were taken out
abbrev pub count_of : {S : Type 0} → Option (Held S) → ℕ
count_of None = 0
count_of (Some held) = 1

-- a call goes on with its round, which has one connection less if one was taken out
pub record Takes {S : Type 0} (remaining : S → Option (List ℕ)) (now : Instant) (most : ℕ) (old new : Waiting S)
    (taken : Option (Held S)) : Type 0 where
  pub takes : TakesFirst remaining now most (first_of old) (end_of old) new.next
      old.connections.items new.connections.items taken
  pub end : new.end + count_of taken ≡ end_of old

-- The place to go on with moves with its connection, and so does the end of the round
pub record MovesUp {S : Type 0} (old new : Waiting S) : Type 0 where
  pub next : new.next ≡ old.next - 1
  pub end : new.end ≡ old.end - 1

-- the place to go on with stays, and so does the end of the round
pub record StaysThere {S : Type 0} (old new : Waiting S) : Type 0 where
  pub next : new.next ≡ old.next
  pub end : new.end ≡ old.end

-- the connection at this place leaves, and the others stay. The place to go on with moves with its connection, and so
-- does the end of the round
pub record Leaves {S : Type 0} (place : ℕ) (old new : Waiting S) : Type 0 where
  pub there : place < length old.connections.items
  pub are : new.connections.items ≡ remove old.connections.items place
  pub next : new.next ≡ (if nat_lt place old.next then old.next - 1 else old.next)
  pub end : new.end ≡ (if nat_lt place old.end then old.end - 1 else old.end)

-- ---- what may have come

-- it is time to look at a connection since something may have come on it, or it is as it was
abbrev pub IsNoted : {S : Type 0} → (number : ℕ) → (now : Instant) → (old new : Held S) → Type 0
IsNoted number now old new = (new ≡ old) ⊎ ((old.number ≡ number) × (new ≡ record old { next = now }))

-- it is time to look at the connection at this place
pub record NotesAt {S : Type 0} (place : ℕ) (now : Instant) (old new : Waiting S) : Type 0 where
  pub there : (d : Held S) → slice_index_or new.connections.items place d
      ≡ record (slice_index_or old.connections.items place d) { next = now }
  pub others : (n : ℕ) (d : Held S) → n ≢ place
      → slice_index_or new.connections.items n d ≡ slice_index_or old.connections.items n d
  pub length : length new.connections.items ≡ length old.connections.items
  pub stays : StaysThere old new

-- something may have come on the connection with this number. The others stay as they are
pub record Notes {S : Type 0} (number : ℕ) (now : Instant) (old new : Waiting S) : Type 0 where
  pub noted : (n : ℕ) (d : Held S) → IsNoted number now (slice_index_or old.connections.items n d)
      (slice_index_or new.connections.items n d)
  pub length : length new.connections.items ≡ length old.connections.items
  pub stays : StaysThere old new

-- ---- room for one more

-- the first connection, which is the oldest, has had the time that each is granted
abbrev pub IsDue : {S : Type 0} → List (Held S) → (now : Instant) → Type 0
IsDue [] now = ⊥
IsDue (held ∷ others) now = granted ≤ instant_nanos now - instant_nanos held.accepted

-- there is a place, or the oldest connection makes room
abbrev pub HasRoom : {S : Type 0} → (most : ℕ) → List (Held S) → (now : Instant) → Type 0
HasRoom most connections now = (length connections < most) ⊎ IsDue connections now

-- the oldest connection left to make room, and the others stay
pub record GivesUp {S : Type 0} (now : Instant) (old new : Waiting S) : Type 0 where
  pub oldest : Held S
  pub were : old.connections.items ≡ oldest ∷ new.connections.items
  pub due : IsDue old.connections.items now
  pub moves : MovesUp old new

-- the oldest connection left to make room for this one
pub record GivesUpFor {S : Type 0} (held : Held S) (now : Instant) (old new : Waiting S) : Type 0 where
  pub oldest : Held S
  pub others : List (Held S)
  pub were : old.connections.items ≡ oldest ∷ others
  pub are : new.connections.items ≡ others ++ held ∷ []
  pub due : IsDue old.connections.items now
  pub moves : MovesUp old new

-- this connection is held too, behind the others: it has no part in the round that is under way
pub record Holds {S : Type 0} (held : Held S) (old new : Waiting S) : Type 0 where
  pub are : new.connections.items ≡ old.connections.items ++ held ∷ []
  pub stays : StaysThere old new

-- ---- the memory of all of them

-- no request takes more memory than the one at this place
pub record IsLargest {S : Type 0} (connections : List (Held S)) (place : ℕ) : Type 0 where
  pub there : place < length connections
  pub most : (n : ℕ) (d : Held S) → n < length connections
      → size_of (slice_index_or connections n d) ≤ size_of (slice_index_or connections place d)

-- the connection whose request takes most memory leaves
abbrev pub GivesUpLargest : {S : Type 0} → (old new : Waiting S) → Type 0
GivesUpLargest old new = (place : ℕ) × IsLargest old.connections.items place × Leaves place old new
