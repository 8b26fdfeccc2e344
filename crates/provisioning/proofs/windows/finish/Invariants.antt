use Rattle.std.proofs.Common.{◌+◌}
use Rattle.provisioning.specs.Openings.{Opens}
use Rattle.provisioning.specs.Windows.{scene_of, window_of}
use Rattle.provisioning.proofs.WindowLemmas.{IsFinishing, steps_left}
use Rattle.provisioning.proofs.windows.finish.Given as goal

-- the first record so far
abbrev pub invariant-loop-first : goal.invariant-loop-first
invariant-loop-first g l = Opens (g.D.Dial.opened l.initial.dial) (g.D.Dial.opened l.dial)
    (λ opened. IsFinishing g.D.Reader.Read.remaining g.D.Writer.Write.contents g.J.Journal l.service (window_of l.streams) opened l.initial.first (scene_of l.initial.window l.initial.connector) l.first (scene_of l.window l.connector))

abbrev pub decreases-loop-first : goal.decreases-loop-first
decreases-loop-first g l = steps_left l.first + l.turns
