-- The remaining time, by a clock.
use Rattle.std.specs.Prelude.{◌≡◌, ◌+◌, ◌<◌}
use Rattle.std.specs.Duration.{as_nanos}
use Rattle.std.specs.Time.{instant_nanos}
use Rattle.std.specs.declared.time.Instant.{Instant}
use Rattle.std.specs.declared.time.Duration.{Duration}
use Rattle.timed_streams.specs.declared.deadline.Deadline.{Deadline}

-- `limit` after a moment of the clock
pub record IsAfter (limit : Duration) (deadline : Deadline) : Type 0 where
  pub now : Instant
  pub sum : instant_nanos deadline.end ≡ instant_nanos now + as_nanos limit

-- the remaining time at this moment, which isn't zero
pub record LeavesAt (deadline : Deadline) (now : Instant) (left : Duration) : Type 0 where
  pub some : 0 < as_nanos left
  pub sum : instant_nanos now + as_nanos left ≡ instant_nanos deadline.end

-- the remaining time at a moment of the clock
pub record IsLeft (deadline : Deadline) (left : Duration) : Type 0 where
  pub now : Instant
  pub leaves : LeavesAt deadline now left

-- some time remained at a moment of the clock
abbrev pub HadTime : Deadline → Type 0
HadTime deadline = (left : Duration) × IsLeft deadline left
