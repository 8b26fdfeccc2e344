use Rattle.std.proofs.Common.{take}
use Rattle.provisioning.specs.Leavers.{GoesAhead}
use Rattle.provisioning.specs.Offering.{rows_in}
use Rattle.provisioning.proofs.leavers.Ahead.take_all.Given as goal

-- the rows so far are taken
abbrev pub invariant-loop-record : goal.invariant-loop-record
invariant-loop-record g l = GoesAhead l.connector.book l.initial.self l.self (rows_in (take l.record-index l.records))
