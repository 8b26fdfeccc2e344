use Rattle.commands.proofs.ImageLemmas.{IsPrinting}
use Rattle.commands.proofs.images.print_images.Given as goal

-- the lines of the records so far are printed
abbrev pub invariant-loop : goal.invariant-loop
invariant-loop g l = IsPrinting l.initial.rows l.rows (g.W.Write.contents l.initial.out) (g.W.Write.contents l.out) l.are_rows
