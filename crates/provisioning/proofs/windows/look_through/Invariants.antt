use Rattle.std.proofs.Common.{◌≡◌, List, ◌++◌, deque_len}
use Rattle.provisioning.specs.Windows.{LooksThrough}
use Rattle.provisioning.specs.declared.tracks.Track.{Track}
use Rattle.provisioning.proofs.windows.look_through.Given as goal

-- these were looked through, and the others are left
abbrev pub invariant-loop-track : goal.invariant-loop-track
invariant-loop-track g l = (front : List (Track g.row.D-Reader.Denot g.row.D-Writer.Denot)) × (l.initial.tracks.items ≡ front ++ l.tracks.items)
    × LooksThrough g.D.Reader.Read.remaining g.J.Journal l.service front l.initial.connector l.connector

abbrev pub decreases-loop-track : goal.decreases-loop-track
decreases-loop-track g l = deque_len l.tracks
