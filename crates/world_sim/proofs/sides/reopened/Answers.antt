use Rattle.std.proofs.Common.{Err, inl, inr, refl, subst, sym}
use Rattle.journal_core.specs.Calls.{OpensAgain}
use Rattle.world_sim.specs.Running.{journal_in}
use Rattle.world_sim.specs.Sides.{CountsWorldFault, OpensThenReads}
use Rattle.world_sim.specs.declared.reports.WorldFault.{WorldFault}
use Rattle.world_sim.proofs.Reopening.{reopens_done, reopens_failed, reopens_then_reads}
use Rattle.world_sim.proofs.sides.reopened.Goals as goal

pub returns-in-Ok-clause-steps : goal.returns-in-Ok-clause-steps
returns-in-Ok-clause-steps g c =
    let h = g.J.Journal in
    let before = c.journal_of-journal.result in
    let R : g.row.J.Denot → Type 0 = λ j. OpensThenReads h j (journal_in c.opened.result.0) c.opened.result.1 in
    subst R c.journal_of-journal.ensures
    (inl (record { between = c.reopen.new.self; opened = reopens_done h before c.reopen.new.self c.in-Ok.ensures.reopens; read = c.opened.ensures.reads }))

pub returns-in-Ok-clause-reopens : goal.returns-in-Ok-clause-reopens
returns-in-Ok-clause-reopens g c =
    let h = g.J.Journal in
    let before = c.journal_of-journal.result in
    let R : g.row.J.Denot → Type 0 = λ j. OpensAgain {T = Unit {0}} {F = WorldFault} h CountsWorldFault j (journal_in c.opened.result.0) c.opened.result.1 in
    subst R c.journal_of-journal.ensures
    (reopens_then_reads h before c.reopen.new.self (journal_in c.opened.result.0) c.opened.result.1 c.in-Ok.ensures.reopens c.opened.ensures.reads)

pub returns-in-Err-clause-reopens : goal.returns-in-Err-clause-reopens
returns-in-Err-clause-reopens g c =
    let h = g.J.Journal in
    let before = c.journal_of-journal.result in
    let F : WorldFault → Type 0 = λ f. OpensAgain {T = Unit {0}} h CountsWorldFault before c.reopen.new.self (Err f) in
    let R : g.row.J.Denot → Type 0 = λ j. OpensAgain {T = Unit {0}} h CountsWorldFault j c.reopen.new.self (Err c.from.result) in
    subst R c.journal_of-journal.ensures (subst F (sym c.from.ensures) (reopens_failed h before c.reopen.new.self c.in-Err.fault c.in-Err.ensures.reopens))

pub returns-in-Err-clause-steps : goal.returns-in-Err-clause-steps
returns-in-Err-clause-steps g c = inr (record { fault = c.from.result; failed = refl; opened = returns-in-Err-clause-reopens g c })
