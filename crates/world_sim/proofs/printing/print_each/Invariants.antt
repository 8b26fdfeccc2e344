use Rattle.std.proofs.Common.{take}
use Rattle.std.specs.Io.KnownBytes.{Appends}
use Rattle.world_sim.specs.Printing.{ShowsEach, lines_of}
use Rattle.world_sim.proofs.printing.print_each.Given as goal

-- the records before this one were shown, and their lines printed
abbrev pub invariant-loop-name : goal.invariant-loop-name
invariant-loop-name g l = ShowsEach g.R.Registry g.J.Journal l.initial.world l.world (take l.name-index l.names) l.views.items
    × Appends (g.W.Write.contents l.initial.out) (g.W.Write.contents l.out) (lines_of l.whose l.views.items)
