use Rattle.std.proofs.Common.{◌≡◌, map}
use Rattle.source_csv.specs.Rejections.{without_name}
use Rattle.source_csv.proofs.files.rows_of.Given as goal

-- the records so far without their names
abbrev pub invariant-loop-record : goal.invariant-loop-record
invariant-loop-record l = l.rows.items ≡ map without_name l.yielded
