use Rattle.std.proofs.Common.{Ok, deque_len}
use Rattle.provisioning.specs.Openings.{Opens}
use Rattle.provisioning.specs.Windows.{Goes, beside, scene_of}
use Rattle.provisioning.proofs.windows.fill.Given as goal

-- the records so far were begun
abbrev pub invariant-loop-alloc : goal.invariant-loop-alloc
invariant-loop-alloc g l = Opens (g.D.Dial.opened l.initial.dial) (g.D.Dial.opened l.dial)
    (λ opened. Goes g.D.Reader.Read.remaining g.D.Writer.Write.contents g.J.Journal l.service (beside l.streams) opened (scene_of l.initial.window l.connector) (scene_of l.window l.connector) (Ok tt))

abbrev pub decreases-loop-alloc : goal.decreases-loop-alloc
decreases-loop-alloc g l = deque_len l.window.waiting
