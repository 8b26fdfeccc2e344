use Rattle.std.proofs.Common.{length}
use Rattle.provisioning.specs.Openings.{Opens}
use Rattle.provisioning.specs.Windows.{names_in, scene_of, window_of}
use Rattle.provisioning.proofs.WindowLemmas.{IsThroughSo}
use Rattle.provisioning.proofs.windows.push_through.Given as goal

-- the records so far were reported and counted
abbrev pub invariant-loop-first : goal.invariant-loop-first
invariant-loop-first g l = Opens (g.D.Dial.opened l.initial.dial) (g.D.Dial.opened l.dial)
    (λ opened. IsThroughSo g.D.Reader.Read.remaining g.D.Writer.Write.contents g.J.Journal l.service (window_of l.streams) l.limit opened (scene_of l.initial.window l.initial.connector) (scene_of l.window l.connector) (g.T.Tell.told l.initial.teller) (g.T.Tell.told l.teller) l.tally l.streak)

abbrev pub decreases-loop-first : goal.decreases-loop-first
decreases-loop-first g l = length (names_in (scene_of l.window l.connector))
