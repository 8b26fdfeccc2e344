use Rattle.std.proofs.Common.{◌≡◌, ◌+◌, ℕ, List, map, drop}
use Rattle.source_csv.specs.Fields.{Record}
use Rattle.world_sim.specs.Schedules.{ReadsFiles, said_from}
use Rattle.world_sim.proofs.ScheduleLemmas.{behind}
use Rattle.world_sim.proofs.schedules.said_of.Given as goal

-- what the lines so far said, and then what the lines from here on say
abbrev pub invariant-loop-line : goal.invariant-loop-line
invariant-loop-line g l = (l.number ≡ l.line-index)
    × ((records_in : List ℕ → List Record) → ReadsFiles records_in
    → said_from (g.T.Line.said records_in) 1 (map (λ line. line.now) l.fn.lines) ≡ behind l.all.items (said_from (g.T.Line.said records_in) (l.line-index + 1) (map (λ line. line.now) (drop l.line-index l.fn.lines))))
