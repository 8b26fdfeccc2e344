use Rattle.std.proofs.Common.{◌≡◌, ◌⊎◌, ◌+◌, ◌-◌, ◌<◌, ◌≤◌, [], length, vec_len}
use Rattle.std.specs.Io.KnownBytes.{Consumes}
use Rattle.http_text.specs.Message.{head_limit}
use Rattle.http_text.specs.Heads.{IsUndecided}
use Rattle.http_text.specs.Parsing.{form_of}
use Rattle.http_text.specs.Steps.{SpendsTurns}
use Rattle.http_text.proofs.reading.read_head.Given as goal

-- the bytes that were taken hold no head and may become one
abbrev pub invariant-loop-bytes : goal.invariant-loop-bytes
invariant-loop-bytes g l = record {
  taken : Consumes l.fn.reader.remaining l.reader.remaining l.bytes.items;
  undecided : IsUndecided (form_of l.kind) l.bytes.items;
  size : length l.bytes.items < head_limit;
  counts : SpendsTurns l.fn.reader l.reader l.fn.turns l.turns;
  clean : l.reader.failures ≡ l.fn.reader.failures;
  parses : (l.parses ≡ l.fn.parses)
      ⊎ ((l.reader.ahead ≡ []) × (l.parses ≤ l.fn.parses + (l.fn.turns - l.turns) + 1));
}

-- each turn adds bytes
abbrev pub decreases-loop-bytes : goal.decreases-loop-bytes
decreases-loop-bytes g l = head_limit - vec_len l.bytes
