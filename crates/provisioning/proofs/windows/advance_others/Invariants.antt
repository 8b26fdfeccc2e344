use Rattle.std.proofs.Common.{◌≡◌, []}
use Rattle.provisioning.specs.Openings.{Opens}
use Rattle.provisioning.specs.Windows.{Moves, scene_of}
use Rattle.provisioning.proofs.WindowLemmas.{IsTurned}
use Rattle.provisioning.proofs.windows.advance_others.Given as goal

-- the records so far went on, and were put at the end
abbrev pub invariant-loop-turned : goal.invariant-loop-turned
invariant-loop-turned g l = Opens (g.D.Dial.opened l.initial.dial) (g.D.Dial.opened l.dial)
    (λ opened. Moves g.D.Reader.Read.remaining g.D.Writer.Write.contents g.J.Journal l.service 0 opened [] (scene_of l.initial.window l.initial.connector) (scene_of l.window l.connector))
    × (l.window.waiting ≡ l.initial.window.waiting)
    × IsTurned l.initial.window.tracks.items l.window.tracks.items l._turned
