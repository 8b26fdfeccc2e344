use Rattle.std.proofs.Common.{◌≡◌, map, take}
use Rattle.source_csv.specs.Records.{row_name}
use Rattle.provisioning.proofs.bases.names_of.Given as goal

-- the names so far
abbrev pub invariant-loop-row : goal.invariant-loop-row
invariant-loop-row l = l.names.items ≡ map row_name (take l.row-index l.rows)
