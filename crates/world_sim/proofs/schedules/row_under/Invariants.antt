use Rattle.std.proofs.Common.{◌≡◌, ℕ, List, drop, map}
use Rattle.source_csv.specs.Fields.{Record, named}
use Rattle.world_sim.specs.Schedules.{ReadsFiles, row_under}
use Rattle.world_sim.proofs.schedules.row_under.Given as goal

-- under no header so far: the row is what the headers from here on make of it
abbrev pub invariant-loop-columns : goal.invariant-loop-columns
invariant-loop-columns l = (records_in : List ℕ → List Record) → ReadsFiles records_in
    → row_under records_in l.fn.kind l.fn.text (map (λ columns. named columns.now) l.fn.headers) ≡ row_under records_in l.fn.kind l.fn.text (map (λ columns. named columns.now) (drop l.columns-index l.fn.headers))
