use Rattle.std.proofs.Common.{take}
use Rattle.std.specs.Io.KnownBytes.{Appends}
use Rattle.storage.specs.JournalLines.{lines_of}
use Rattle.storage.proofs.journal_showing.write_lines.Given as goal

-- the lines of the entries so far are written
abbrev pub invariant-loop-entry : goal.invariant-loop-entry
invariant-loop-entry g l = Appends (g.W.Write.contents l.initial.out) (g.W.Write.contents l.out) (lines_of (take l.entry-index l.entries))
