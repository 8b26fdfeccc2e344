use Rattle.std.proofs.Common.{◌≡◌, ◌-◌, ◌<◌, ◌≤◌, length, take, slice_index}
use Rattle.std.specs.List.{range_with_len}
use Rattle.provider_core.proofs.listing.run_length.Given as goal

-- the first `run` places follow each other
abbrev pub invariant-loop-run : goal.invariant-loop-run
invariant-loop-run l = record {
  some : 0 < l.run;
  within : l.run ≤ length l.places;
  follow : take l.run l.places ≡ range_with_len (slice_index l.places 0) l.run;
}

abbrev pub decreases-loop-run : goal.decreases-loop-run
decreases-loop-run l = length l.places - l.run
