use Rattle.std.proofs.Common.{◌≡◌, drop}
use Rattle.std.specs.List.{list_all}
use Rattle.std.specs.Str.{is_utf8}
use Rattle.csv.specs.Records.{fields_of}
use Rattle.source_csv.proofs.fields.is_text.Given as goal

-- the remaining fields decide
abbrev pub invariant-loop-place : goal.invariant-loop-place
invariant-loop-place l = list_all is_utf8 (drop l.place (fields_of l.raw)) ≡ list_all is_utf8 (fields_of l.raw)
