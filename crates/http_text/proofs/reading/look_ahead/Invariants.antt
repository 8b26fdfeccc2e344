use Rattle.std.proofs.Common.{◌≡◌, ◌⊎◌, ◌<◌}
use Rattle.std.specs.Io.KnownBytes.{Keeps}
use Rattle.http_text.specs.Steps.{SpendsTurns}
use Rattle.http_text.proofs.reading.look_ahead.Given as goal

-- the remaining bytes are unchanged, and nothing failed
abbrev pub invariant-loop-alloc : goal.invariant-loop-alloc
invariant-loop-alloc g l = record {
  keeps : Keeps l.fn.reader.remaining l.reader.remaining;
  counts : SpendsTurns l.fn.reader l.reader l.fn.turns l.turns;
  clean : l.reader.failures ≡ l.fn.reader.failures;
  spent : (l.reader.ahead ≡ l.fn.reader.ahead) ⊎ (l.turns < l.fn.turns);
}

abbrev pub decreases-loop-alloc : goal.decreases-loop-alloc
decreases-loop-alloc g l = l.turns
