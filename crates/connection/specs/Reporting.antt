-- Faults of connections, which are reported at most once a second.
use Rattle.std.specs.Prelude.{ℕ, ◌+◌, ◌-◌, ◌^◌, ◌≤◌, ⊤, Option, Some, None, min}
use Rattle.std.specs.Time.{instant_nanos}
use Rattle.std.specs.declared.time.Instant.{Instant}
use Rattle.connection.specs.Limits.{report_pause}

-- there was no report yet, or the last one is a second ago
abbrev pub MayReport : (reported : Option Instant) → (now : Instant) → Type 0
MayReport None now = ⊤
MayReport (Some reported) now = report_pause ≤ instant_nanos now - instant_nanos reported

-- a count with some more, as far as 32 bits count
abbrev pub with_more : (count more : ℕ) → ℕ
with_more count more = min (count + more) (2 ^ 32 - 1)
