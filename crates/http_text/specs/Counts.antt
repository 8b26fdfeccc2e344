-- The counts of a stream, and where a count stops.
use Rattle.std.specs.Prelude.{◌≡◌, ℕ, ◌+◌, ◌-◌, ◌^◌, ◌<◌, ◌≤◌, ◌⊎◌, max, min, List, [], Option}
use Rattle.http_text.specs.declared.limits.TheConstants.{TURN_LIMIT}

-- no count goes above this
abbrev pub greatest_count : ℕ
greatest_count = 2 ^ 64 - 1

-- n counted up by k, up to the greatest count
abbrev pub count_up : ℕ → ℕ → ℕ
count_up n k = max n (min (n + k) greatest_count)

-- a reader, as contracts see it
pub record Reading : Type 0 where
  -- the bytes that nobody has taken yet, if they are known
  pub remaining : Option (List ℕ)
  -- the remaining bytes that were read ahead
  pub ahead : List ℕ
  -- its reads so far
  pub calls : ℕ
  -- its failed reads; an interrupted read isn't one
  pub failures : ℕ

-- a writer, as contracts see it
pub record Writing : Type 0 where
  -- the bytes that it holds, if they are known
  pub contents : Option (List ℕ)
  -- its writes and flushes so far
  pub calls : ℕ
  -- the failed ones; an interrupted write isn't one, but an interrupted flush is
  pub failures : ℕ
  -- its flushes so far
  pub flushes : ℕ

-- with no counts yet, and nothing read ahead
abbrev pub fresh_reading : Option (List ℕ) → Reading
fresh_reading remaining = record { remaining = remaining; ahead = []; calls = 0; failures = 0 }

abbrev pub fresh_writing : Option (List ℕ) → Writing
fresh_writing contents = record { contents = contents; calls = 0; failures = 0; flushes = 0 }

-- a count rose, or was already the greatest
abbrev pub HasRisen : ℕ → ℕ → Type 0
HasRisen old new = (old < new) ⊎ (greatest_count ≤ old)

-- a count rose by at least k, or reached the greatest
abbrev pub HasReached : ℕ → ℕ → ℕ → Type 0
HasReached k old new = (old + k ≤ new) ⊎ (greatest_count ≤ new)

-- the greatest number of reads, or of writes and flushes, for one message
abbrev pub turn_limit : ℕ
turn_limit = TURN_LIMIT

-- at most `turn_limit` turns were made, each counted
abbrev pub CountsTurns : ℕ → ℕ → Type 0
CountsTurns old new = (n : ℕ) × (n ≤ turn_limit) × (new ≡ count_up old n)
