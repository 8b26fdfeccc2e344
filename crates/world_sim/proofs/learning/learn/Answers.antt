use Rattle.std.proofs.Common.{ap}
use Rattle.connector_core.specs.Maps.{book_of}
use Rattle.world_sim.proofs.Calls.{counts_fault, is_rejected, learns_nothing, reports_fault, still_leaves, told_leaves, told_open}
use Rattle.world_sim.proofs.Keeping.{all_err}
use Rattle.world_sim.proofs.learning.learn.Goals as goal

pub returns-in-Err-clause-report : goal.returns-in-Err-clause-report
returns-in-Err-clause-report g c = reports_fault c.in-Err.fault c.unlearnt.result c.unlearnt.ensures _ c.in-Err.ensures.learnt

pub returns-in-Err-clause-book : goal.returns-in-Err-clause-book
returns-in-Err-clause-book g c = learns_nothing _ c.in-Err.fault c.in-Err.ensures.learnt (book_of c.args.connector.now.book) (book_of c.learn.new.self.book) (ap book_of c.in-Err.ensures.err)
    c.unlearnt.result (is_rejected c.in-Err.fault c.unlearnt.result c.unlearnt.ensures)

pub returns-in-Err-clause-same : goal.returns-in-Err-clause-same
returns-in-Err-clause-same g c = all_err c.unlearnt.result c.in-Err.ensures.err

pub returns-in-Err-clause-still : goal.returns-in-Err-clause-still
returns-in-Err-clause-still g c = λ faithful was. all_err c.unlearnt.result (still_leaves g.J.Journal c.learn.new.self (g.met.J.Journal.settled c.learn.new.self.journal) c.learn.ensures.kept faithful)

pub returns-in-Err-clause-open : goal.returns-in-Err-clause-open
returns-in-Err-clause-open g c = λ honest faithful. told_open g.J.Journal c.args.connector.now c.learn.new.self _ c.in-Err.ensures.rejected c.unlearnt.result
    (is_rejected c.in-Err.fault c.unlearnt.result c.unlearnt.ensures) faithful

pub returns-in-Err-clause-leaves : goal.returns-in-Err-clause-leaves
returns-in-Err-clause-leaves g c = λ honest was. told_leaves g.J.Journal c.args.connector.now c.learn.new.self _ c.in-Err.ensures.rejected c.unlearnt.result
    (is_rejected c.in-Err.fault c.unlearnt.result c.unlearnt.ensures) c.in-Err.ensures.err _ _ was (c.in-Err.ensures.leaves honest was).failed

pub returns-in-Err-clause-counted : goal.returns-in-Err-clause-counted
returns-in-Err-clause-counted g c = counts_fault c.in-Err.fault c.unlearnt.result c.unlearnt.ensures _ _ c.in-Err.ensures.journal.counted
