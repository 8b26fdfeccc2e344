use Rattle.std.proofs.Common.{◌≡◌, ◌++◌, List}
use Rattle.source_csv.specs.Columns.{Record}
use Rattle.source_csv.specs.Streams.{HasLeft, multiline_next, records_next}
use Rattle.source_csv.proofs.files.rest_of.Given as goal

-- what was said and marked so far is that of the records before the remaining records
abbrev pub invariant-loop : goal.invariant-loop
invariant-loop l = (all : List Record) → HasLeft l.initial.file all
    → (left : List Record) × HasLeft l.file left × (records_next l.initial.file all ≡ l.records.items ++ records_next l.file left)
    × (multiline_next l.initial.file all ≡ l.multiline.items ++ multiline_next l.file left)
