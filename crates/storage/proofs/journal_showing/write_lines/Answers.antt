use Rattle.std.proofs.Common.{◌∙◌}
use Rattle.storage.proofs.JournalShowingLemmas.{one_more}
use Rattle.storage.proofs.journal_showing.write_lines.Goals as goal

pub loop-entry-preserved : goal.loop-entry-preserved
loop-entry-preserved g c =
    one_more (g.W.Write.contents c.args.out.now) (g.W.Write.contents c.loop-entry.out) (g.W.Write.contents c.write_all.new.self)
    c.args.entries.now c.loop-entry.entry-index c.entry-item.result c.as_bytes.result.now
    c.loop-entry-test.true c.entry-item.is (c.as_bytes.ensures.value ∙ c.in_ok-line.ensures) c.loop-entry.invariant c.in_ok-write_all.ensures.bytes
