-- The descriptors that are left to others.
use Rattle.std.specs.Prelude.{◌≡◌, ◌⊎◌, ◌+◌, ◌-◌, ◌^◌, ◌≤◌, ◌<◌, ℕ, min}
use Rattle.connection.specs.declared.descriptors.Descriptors.{Descriptors}

-- how many connections are open: those that wait for their requests, searches that wait, and those that were served
abbrev pub open_count : (waiting searches endings : ℕ) → ℕ
open_count waiting searches endings = min (min (waiting + searches) (2 ^ 64 - 1) + endings) (2 ^ 64 - 1)

-- There is a descriptor for a connection beside so many, and a reserve: there was for as many connections before; or
-- the system was asked now, and had more than the reserve
abbrev pub HasReserve : (reserve connections : ℕ) → (old new : Descriptors) → Type 0
HasReserve reserve connections old new =
    ((connections < old.most_open) × (new ≡ old))
    ⊎ ((old.most_open ≤ connections) × (reserve < new.free) × (new.most_open ≡ min (connections + 1) (2 ^ 64 - 1)))

-- as many connections are open as never before, and the system has no more than the reserve
pub record LacksReserve (reserve connections : ℕ) (old new : Descriptors) : Type 0 where
  pub more : old.most_open ≤ connections
  pub few : new.free ≤ reserve
  pub stays : new.most_open ≡ old.most_open
