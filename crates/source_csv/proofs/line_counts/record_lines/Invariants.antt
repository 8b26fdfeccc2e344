use Rattle.std.proofs.Common.{◌≡◌, drop, max}
use Rattle.csv.specs.Records.{fields_of}
use Rattle.source_csv.specs.Lines.{record_lines}
use Rattle.source_csv.proofs.line_counts.record_lines.Given as goal

-- the most lines so far, or those of the remaining fields
abbrev pub invariant-loop-place : goal.invariant-loop-place
invariant-loop-place l = max l.most (record_lines (drop l.place (fields_of l.raw))) ≡ record_lines (fields_of l.raw)
