-- The limits of connections that are times, in nanoseconds.
use Rattle.std.specs.Prelude.{ℕ}

-- how long each connection may wait for its request, even if others have no place
abbrev pub granted : ℕ
granted = 100_000_000

-- how long a peer may still send after it has its answer
abbrev pub drain_time : ℕ
drain_time = 2_000_000_000

-- the shortest time between two reports of faults
abbrev pub report_pause : ℕ
report_pause = 1_000_000_000
