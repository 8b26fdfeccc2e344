-- Connections that were served and aren't closed yet.
use Rattle.std.specs.Prelude.{◌≡◌, ◌⊎◌, ◌<◌, ⊤, true, ◌+◌, ◌-◌, ◌^◌, ℕ, Bool, List, length, min, nat_le}
use Rattle.std.specs.Prelude.{if◌then◌else◌, ◌*◌, ◌/◌, ◌≤◌, ◌||◌, nat_lt}
use Rattle.std.specs.List.{slice_index_or}
use Rattle.std.specs.Time.{instant_nanos}
use Rattle.std.specs.declared.time.Instant.{Instant}
use Rattle.connection.specs.Limits.{granted}
use Rattle.connection.specs.declared.ending.Ending.{Ending}
use Rattle.connection.specs.declared.ending.Step.{Step}
use Rattle.connection.specs.declared.ending.Step.TheVariants.{Waits, Interrupted, Moves, Over}

-- the whole answer was sent
abbrev pub is_sent : {S C : Type 0} → Ending S C → Bool
is_sent ending = nat_le (length ending.unsent.items) ending.sent

-- an ending begins with all bytes that aren't sent, and keeps none of memory if there are none
abbrev pub BeginsWith : {S C : Type 0} → (unsent : List ℕ) → Ending S C → Type 0
BeginsWith unsent ending = (ending.unsent.items ≡ unsent) × (ending.sent ≡ 0)

-- nothing moved in a look
abbrev pub IsStill : Step → Type 0
IsStill Waits = ⊤
IsStill Interrupted = ⊤
IsStill Moves = ⊥
IsStill Over = ⊤

-- something moves in a look only if more of the answer was sent by it, or all of it was before
abbrev pub MovesOn : {S C : Type 0} → (old new : Ending S C) → Step → Type 0
MovesOn old new Waits = ⊤
MovesOn old new Interrupted = ⊤
MovesOn old new Moves = (is_sent old ≡ true) ⊎ (old.sent < new.sent) ⊎ (is_sent new ≡ true)
MovesOn old new Over = ⊤

-- how many answers were lost, if this ending is closed now
abbrev pub lost_with : {S C : Type 0} → ℕ → Ending S C → ℕ
lost_with lost ending = if is_sent ending then lost else min (lost + 1) (2 ^ 32 - 1)

-- how many bytes a second the peer has taken of the answer since it was kept; one that was sent, or was kept a moment
-- ago, counts as the quickest
abbrev pub rate : {S C : Type 0} → (now : Instant) → Ending S C → ℕ
rate now ending =
    if is_sent ending || nat_lt (instant_nanos now - instant_nanos ending.began) granted then 2 ^ 128 - 1
    else ending.sent * 1_000 / ((instant_nanos now - instant_nanos ending.began) / 1_000_000)

-- no peer of these has taken its answer more slowly than the one at this place
pub record IsSlowest {S C : Type 0} (now : Instant) (endings : List (Ending S C)) (place : ℕ) : Type 0 where
  pub there : place < length endings
  pub least : (n : ℕ) (d : Ending S C) → n < length endings
      → rate now (slice_index_or endings place d) ≤ rate now (slice_index_or endings n d)
