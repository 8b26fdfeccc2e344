use Rattle.std.proofs.Common.{◌∙◌}
use Rattle.checking.proofs.RecheckLemmas.{one_more_doubted}
use Rattle.checking.proofs.rechecking.doubt_each.Goals as goal

pub loop-record-preserved : goal.loop-record-preserved
loop-record-preserved g c = record {
  book = one_more_doubted c.args.connector.now.book c.loop-record.connector.book c.doubt.new.self.book
      c.args.doubtful.now c.loop-record.record-index c.record-item.result c.loop-record-test.true
      c.record-item.is c.loop-record.invariant.book c.doubt.ensures.book;
  journal = c.doubt.ensures.journal ∙ c.loop-record.invariant.journal;
}
