use Rattle.std.proofs.Common.{◌≡◌, ◌++◌, drop}
use Rattle.csv.specs.Records.{fields_of}
use Rattle.source_csv.specs.Columns.{named}
use Rattle.source_csv.proofs.snapshot_headers.names_of.Given as goal

-- the names so far, and the remaining fields
abbrev pub invariant-loop-place : goal.invariant-loop-place
invariant-loop-place l = named l.names.items ++ drop l.place (fields_of l.header) ≡ fields_of l.header
