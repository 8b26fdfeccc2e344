use Rattle.std.proofs.Common.{◌≡◌, take}
use Rattle.provisioning.specs.Offering.{rows_in}
use Rattle.provisioning.proofs.offering.rows_in.Given as goal

-- the rows so far
abbrev pub invariant-loop-record : goal.invariant-loop-record
invariant-loop-record l = l.rows.items ≡ rows_in (take l.record-index l.records)
