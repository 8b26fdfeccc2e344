-- The limit of a wait, in nanoseconds.
use Rattle.std.specs.Prelude.{ℕ}

-- the longest time that one read of a stream with a deadline waits
abbrev pub longest_wait : ℕ
longest_wait = 1_000_000_000
