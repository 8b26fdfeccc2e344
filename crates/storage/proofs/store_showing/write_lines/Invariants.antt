use Rattle.std.proofs.Common.{take}
use Rattle.std.specs.Io.KnownBytes.{Appends}
use Rattle.storage.specs.StoreLines.{lines_of}
use Rattle.storage.proofs.store_showing.write_lines.Given as goal

-- the lines of the rows so far are written
abbrev pub invariant-loop-row : goal.invariant-loop-row
invariant-loop-row g l = Appends (g.W.Write.contents l.initial.out) (g.W.Write.contents l.out) (lines_of (take l.row-index l.rows))
