use Rattle.std.proofs.Common.{List, Result, arith, subst}
use Rattle.std.proofs.lemmas.List.{take_all}
use Rattle.source_csv.specs.declared.faults.RowFault.{RowFault}
use Rattle.source_csv.specs.declared.rows.Row.{Row}
use Rattle.provisioning.specs.Leavers.{GoesAhead}
use Rattle.provisioning.specs.Offering.{rows_in}
use Rattle.provisioning.proofs.LeaverLemmas.{goes_record}
use Rattle.provisioning.proofs.leavers.Ahead.take_all.Goals as goal

pub loop-record-preserved : goal.loop-record-preserved
loop-record-preserved g c =
    goes_record c.args.connector.now.book c.args.self.now c.loop-record.self c.take_record.new.self c.args.records.now
    c.loop-record.record-index c.record-item.result c.loop-record-test.true c.record-item.is c.loop-record.invariant
    c.in_ok-take_record.ensures

pub returns : goal.returns
returns g c =
    subst (λ (rs : List (Result Row RowFault)). GoesAhead c.args.connector.now.book c.args.self.now c.loop-record.self (rows_in rs))
    (take_all c.loop-record.record-index c.args.records.now (omega (arith, c.loop-record-test.false))) c.loop-record.invariant
