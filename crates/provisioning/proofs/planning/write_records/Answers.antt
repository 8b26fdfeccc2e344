use Rattle.connector_core.specs.Maps.{book_of}
use Rattle.provisioning.specs.Bases.{is_among, row_in}
use Rattle.provisioning.proofs.PlanLemmas.{one_more}
use Rattle.provisioning.proofs.planning.write_records.Goals as goal

pub loop-name-preserved : goal.loop-name-preserved
loop-name-preserved g c =
    one_more (row_in c.args.basis.now) (is_among c.args.basis.now) (book_of c.args.connector.now.book) (g.W.Write.contents c.args.out.now) (g.W.Write.contents c.loop-name.out) (g.W.Write.contents c.write_record.new.out)
    c.args.names.now c.loop-name.name-index c.name-item.result
    c.loop-name-test.true c.name-item.is c.loop-name.invariant c.in_ok-write_record.ensures
