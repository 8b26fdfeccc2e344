use Rattle.world_sim.proofs.Calls.{counts_no_row, is_no_row, reports_no_row, still_leaves, takes_no_row, told_leaves, told_open}
use Rattle.world_sim.proofs.Keeping.{all_err}
use Rattle.world_sim.proofs.learning.judge.Goals as goal

pub returns-in-Err-clause-report : goal.returns-in-Err-clause-report
returns-in-Err-clause-report g c = reports_no_row c.in-Err.fault c.unaccepted.result c.unaccepted.ensures _ c.in-Err.ensures.verdict

pub returns-in-Err-clause-book : goal.returns-in-Err-clause-book
returns-in-Err-clause-book g c = takes_no_row _ c.in-Err.fault c.in-Err.ensures.verdict c.args.row c.args.connector.now.book c.change.new.self.book c.in-Err.ensures.err
    c.unaccepted.result (is_no_row c.in-Err.fault c.unaccepted.result c.unaccepted.ensures)

pub returns-in-Err-clause-same : goal.returns-in-Err-clause-same
returns-in-Err-clause-same g c = all_err c.unaccepted.result c.in-Err.ensures.err

pub returns-in-Err-clause-still : goal.returns-in-Err-clause-still
returns-in-Err-clause-still g c = λ faithful was. all_err c.unaccepted.result (still_leaves g.J.Journal c.change.new.self (g.met.J.Journal.settled c.change.new.self.journal) c.change.ensures.kept faithful)

pub returns-in-Err-clause-open : goal.returns-in-Err-clause-open
returns-in-Err-clause-open g c = λ honest faithful. told_open g.J.Journal c.args.connector.now c.change.new.self _ c.in-Err.ensures.rejected c.unaccepted.result
    (is_no_row c.in-Err.fault c.unaccepted.result c.unaccepted.ensures) faithful

pub returns-in-Err-clause-leaves : goal.returns-in-Err-clause-leaves
returns-in-Err-clause-leaves g c = λ honest was. told_leaves g.J.Journal c.args.connector.now c.change.new.self _ c.in-Err.ensures.rejected c.unaccepted.result
    (is_no_row c.in-Err.fault c.unaccepted.result c.unaccepted.ensures) c.in-Err.ensures.err _ _ was (c.in-Err.ensures.leaves honest was).failed

pub returns-in-Err-clause-counted : goal.returns-in-Err-clause-counted
returns-in-Err-clause-counted g c = counts_no_row c.in-Err.fault c.unaccepted.result c.unaccepted.ensures _ _ c.in-Err.ensures.journal.counted
