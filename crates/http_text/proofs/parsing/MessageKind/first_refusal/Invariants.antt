use Rattle.std.proofs.Common.{◌+◌, ◌≤◌, ◌<◌, ◌-◌, ◌^◌, length, take, ℕ}
use Rattle.http_text.specs.Heads.{IsUndecided}
use Rattle.http_text.specs.Parsing.{form_of}
use Rattle.http_text.specs.Steps.{RefusesHead, most_halvings}
use Rattle.http_text.proofs.parsing.MessageKind.first_refusal.Given as goal

-- the first `low` bytes aren't refused, the first `high` are
abbrev pub invariant-halve : goal.invariant-halve
invariant-halve l = record {
  begun : l.low < l.high;
  within : l.high ≤ length l.bytes;
  after : l.fn.undecided ≤ l.low;
  before : IsUndecided (form_of l.self) (take l.low l.bytes);
  refused : RefusesHead (form_of l.self) (take l.high l.bytes) l.fault;
  halvings : (n : ℕ) × (l.high - l.low ≤ 2 ^ n) × (l.parses + n ≤ l.fn.parses + most_halvings);
}

abbrev pub decreases-halve : goal.decreases-halve
decreases-halve l = l.high - l.low
