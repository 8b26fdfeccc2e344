use Rattle.std.proofs.Common.{◌≡◌, ◌+◌, ◌++◌, map, drop}
use Rattle.world_sim.specs.Schedules.{said_lines}
use Rattle.world_sim.proofs.schedules.numbers_of.Given as goal

-- the numbers so far, and then those of the lines from here on
abbrev pub invariant-loop-line : goal.invariant-loop-line
invariant-loop-line l = (l.number ≡ l.line-index)
    × (said_lines 1 (map (λ line. line.now) l.fn.lines) ≡ l.numbers.items ++ said_lines (l.line-index + 1) (map (λ line. line.now) (drop l.line-index l.fn.lines)))
