-- Requests for which all rows are read: whose is next, and how long one may take.
use Rattle.std.specs.Prelude.{◌≡◌, ◌⊎◌, ◌-◌, ◌≤◌, ◌<◌, ℕ, Bool, List, [], ◌∷◌, ◌++◌, length, drop, count_by, nat_le}
use Rattle.std.specs.Prelude.{Option, None, Some, if◌then◌else◌}
use Rattle.std.specs.List.{remove, slice_index_or}
use Rattle.std.specs.VecDeque.{deque_capacity, deque_len}
use Rattle.std.specs.Time.{instant_nanos}
use Rattle.std.specs.contracts.net.ip_addr.IpAddrPartialEq.TheImpl as addresses
use Rattle.std.specs.declared.net.ip_addr.IpAddr.{IpAddr}
use Rattle.std.specs.declared.time.Instant.{Instant}
use Rattle.connection.specs.declared.held.Held.{Held}
use Rattle.connection.specs.declared.searches.Searches.{Searches}

-- a search that began then has had its time
abbrev pub IsOver : (longest : ℕ) → (began : Option Instant) → (now : Instant) → Type 0
IsOver longest None now = ⊥
IsOver longest (Some began) now = longest ≤ instant_nanos now - instant_nanos began

-- the last addresses, of which there are so many at most, before another is noted
abbrev pub before_another : (most : ℕ) → List IpAddr → List IpAddr
before_another most served = if nat_le most (length served) then drop 1 served else served

-- this address is noted as the last one; without memory it isn't
abbrev pub HasNoted : {S : Type 0} → (most : ℕ) → (peer : IpAddr) → (old new : Searches S) → Type 0
HasNoted most peer old new =
    (new.served.items ≡ before_another most old.served.items ++ peer ∷ [])
    ⊎ ((new.served.items ≡ before_another most old.served.items)
    × (deque_capacity old.served ≤ deque_len old.served) × (length old.served.items < most))

-- this connection waits too, behind the others, as it was but for the memory that its request doesn't need
pub record Adds {S : Type 0} (held : Held S) (old new : Searches S) : Type 0 where
  pub last : Held S
  pub are : new.waiting.items ≡ old.waiting.items ++ last ∷ []
  pub number : last.number ≡ held.number
  pub peer : last.peer ≡ held.peer
  pub bytes : last.received.bytes.items ≡ held.received.bytes.items
  pub served : new.served ≡ old.served

-- whether two addresses are the same, as the code compares them
abbrev pub is_same : IpAddr → IpAddr → Bool
is_same address peer = (addresses.eq-value).it address peer

module _ {S : Type 0} where
  -- how many of these addresses are that of a connection
  abbrev pub served_of : (served : List IpAddr) → Held S → ℕ
  served_of served held = count_by (λ address. is_same address held.peer) served

  -- the connection at this place is next: its client is one of which fewest were served lately, and of those clients'
  -- connections it came first
  pub record IsNext (waiting : List (Held S)) (served : List IpAddr) (place : ℕ) : Type 0 where
    pub there : place < length waiting
    pub fewest : (n : ℕ) (d : Held S) → n < length waiting
        → served_of served (slice_index_or waiting place d) ≤ served_of served (slice_index_or waiting n d)
    pub first : (n : ℕ) (d : Held S) → n < place
        → served_of served (slice_index_or waiting place d) < served_of served (slice_index_or waiting n d)

  -- the next one was taken out, the others stay in their order, and its address is noted; or nobody waits
  abbrev pub TakesNext : (most : ℕ) → (old new : Searches S) → Option (Held S) → Type 0
  TakesNext most old new None = (old.waiting.items ≡ []) × (new ≡ old)
  TakesNext most old new (Some held) =
      (place : ℕ) × IsNext old.waiting.items old.served.items place
      × (held ≡ slice_index_or old.waiting.items place held)
      × (new.waiting.items ≡ remove old.waiting.items place)
      × HasNoted most held.peer old new
