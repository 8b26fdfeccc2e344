use Rattle.std.proofs.Common.{take}
use Rattle.std.specs.Io.KnownBytes.{Appends}
use Rattle.connector_core.specs.Maps.{book_of}
use Rattle.provisioning.specs.Bases.{is_among, row_in}
use Rattle.provisioning.specs.Plans.{plan_lines}
use Rattle.provisioning.proofs.planning.write_records.Given as goal

-- the lines of the records so far are written
abbrev pub invariant-loop-name : goal.invariant-loop-name
invariant-loop-name g l = Appends (g.W.Write.contents l.initial.out) (g.W.Write.contents l.out) (plan_lines (row_in l.basis) (is_among l.basis) (book_of l.connector.book) (take l.name-index l.names))
