use Rattle.std.proofs.Common.{length}
use Rattle.connector_core.specs.Maps.{book_of}
use Rattle.provisioning.specs.Openings.{Opens}
use Rattle.checking.proofs.CheckLemmas.{HasBegun}
use Rattle.checking.proofs.running.check_names.Given as goal

-- the records in front of those that wait were begun
abbrev pub invariant-loop-name : goal.invariant-loop-name
invariant-loop-name g l = Opens (g.D.Dial.opened l.initial.dial) (g.D.Dial.opened l.dial) (λ opened. HasBegun g.T.TellFinding.note g.D.Reader.Read.remaining g.D.Writer.Write.contents l.service (book_of l.connector.book) l.initial.waiting.items l.waiting.items opened (g.T.TellFinding.noted l.initial.teller) (g.T.TellFinding.noted l.teller) l.counts l.under_way.items)

abbrev pub decreases-loop-name : goal.decreases-loop-name
decreases-loop-name g l = length l.waiting.items
