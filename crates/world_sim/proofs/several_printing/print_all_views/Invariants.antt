use Rattle.std.proofs.Common.{map}
use Rattle.std.specs.Io.KnownBytes.{Appends}
use Rattle.world_sim.specs.SeveralPrinting.{ShowsEachSide, views_lines}
use Rattle.world_sim.proofs.several_printing.print_all_views.Given as goal

-- the records of the connectors before this place were shown, and their lines printed
abbrev pub invariant-loop-place : goal.invariant-loop-place
invariant-loop-place g l = ShowsEachSide g.R.Registry g.J.Journal l.initial.world l.world l.place (map (λ views. views.items) l.all.items)
    × Appends (g.W.Write.contents l.initial.out) (g.W.Write.contents l.out) (views_lines (map (λ views. views.items) l.all.items))
