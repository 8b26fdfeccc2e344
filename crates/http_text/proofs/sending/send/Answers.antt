use Rattle.http_text.proofs.ListLemmas.{rest_from}
use Rattle.http_text.proofs.SendLemmas.{count_more, HasSent-kept, HasSent-more}
use Rattle.http_text.proofs.sending.send.Goals.{in-Taken, in-Interrupted}
use Rattle.http_text.proofs.sending.send.Goals as goal

pub returns-then-is_empty-clause-counts : goal.returns-then-is_empty-clause-counts
returns-then-is_empty-clause-counts g c = count_more _ _ _ _ _ c.loop-test.true c.loop.invariant.calls c.finish.ensures.counted

pub returns-in-Failed-clause-counts : goal.returns-in-Failed-clause-counts
returns-in-Failed-clause-counts g c = count_more _ _ _ _ _ c.loop-test.true c.loop.invariant.calls c.write.ensures.calls

pub loop-preserved : goal.loop-preserved
loop-preserved g c =
    elim c.match-write.branch [
      | in-Taken w ↦
          let wrote = w.in-Taken.ensures in
          rw (w.rest-is, rest_from) (HasSent-more _ _ _ _ _ _ _ c.loop.invariant wrote.bytes.1 wrote.bytes.2 wrote.calls wrote.failures wrote.flushes)
      | in-Interrupted w ↦
          let wrote = w.in-Interrupted.ensures in
          rw w.rest-is (HasSent-kept _ _ _ _ _ _ c.loop.invariant wrote.bytes wrote.calls wrote.failures wrote.flushes)
    ]
