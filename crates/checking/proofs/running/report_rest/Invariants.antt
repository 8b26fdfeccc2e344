use Rattle.std.proofs.Common.{Option, List, length}
use Rattle.checking.specs.Checks.{ReportsAll}
use Rattle.checking.specs.declared.counts.Counts.{Counts}
use Rattle.checking.proofs.running.report_rest.Given as goal

-- if those that are left are reported, all are
abbrev pub invariant-loop-first : goal.invariant-loop-first
invariant-loop-first g l = (after : Option (List g.row.T-Note.Denot)) (more : Counts)
    → ReportsAll g.T.TellFinding.note g.D.Reader.Read.remaining l.under_way.items l.counts (g.T.TellFinding.noted l.teller) after more
    → ReportsAll g.T.TellFinding.note g.D.Reader.Read.remaining l.initial.under_way.items l.initial.counts (g.T.TellFinding.noted l.initial.teller) after more

abbrev pub decreases-loop-first : goal.decreases-loop-first
decreases-loop-first g l = length l.under_way.items
