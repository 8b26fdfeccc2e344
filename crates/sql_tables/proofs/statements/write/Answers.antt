use Rattle.std.proofs.Common.{[], arith, Err}
use Rattle.sqlite.specs.Held.{state}
use Rattle.sqlite.specs.Values.{bound}
use Rattle.sqlite.specs.State.{HasCleanDisk, Executes}
use Rattle.sql_tables.proofs.Keeping.{not_run_keeps}
use Rattle.sql_tables.proofs.Asking.{not_run_executes, ran_of, write_failed, write_keeps, write_ran, write_stops}
use Rattle.sql_tables.proofs.Results.{handed_error, on_err}
use Rattle.sql_tables.proofs.statements.write.Goals as goal

pub returns-in_err-statement-clause-fails : goal.returns-in_err-statement-clause-fails
returns-in_err-statement-clause-fails g c clean =
    handed_error (λ e. Executes c.args.sql.now (bound c.args.params.now) (state g.S.Store c.args.conn.now) (state g.S.Store c.prepare.new.self) (Err e)) c.from_residual.result c.in_err-statement.field-0.0 c.from_residual.ensures.1
    (not_run_executes _ _ _ _ _ (c.in_err-statement.ensures.err clean (bound c.args.params.now)))

pub returns-in_err-statement-clause-keeps : goal.returns-in_err-statement-clause-keeps
returns-in_err-statement-clause-keeps g c clean = on_err c.from_residual.result (not_run_keeps _ _ _ _ _ (c.in_err-statement.ensures.err clean []))

pub returns-clause-count : goal.returns-clause-count
returns-clause-count g c clean =
    let mid_clean : HasCleanDisk (state g.S.Store c.prepare.new.self) = omega (arith, clean, c.execute.ensures.survives.clean) in
    let first_clean : HasCleanDisk (state g.S.Store c.args.conn.now) = omega (arith, mid_clean, c.prepare.ensures.survives.clean) in
    write_ran _ (state g.S.Store c.prepare.new.self) _ c.args.sql.now _ _ c.requires.edit (c.requires.laid first_clean) (c.in_ok-statement.ensures.ok mid_clean) c.execute.result (c.execute.ensures.runs clean)

pub returns-clause-ran : goal.returns-clause-ran
returns-clause-ran g c clean = ran_of _ _ _ _ c.execute.result (returns-clause-count g c clean)

pub returns-clause-fails : goal.returns-clause-fails
returns-clause-fails g c clean =
    let mid_clean : HasCleanDisk (state g.S.Store c.prepare.new.self) = omega (arith, clean, c.execute.ensures.survives.clean) in
    let first_clean : HasCleanDisk (state g.S.Store c.args.conn.now) = omega (arith, mid_clean, c.prepare.ensures.survives.clean) in
    write_failed _ (state g.S.Store c.prepare.new.self) _ c.args.sql.now _ _ c.requires.edit (c.requires.laid first_clean) (c.in_ok-statement.ensures.ok mid_clean) c.execute.result c.prepare.ensures.survives.counts c.prepare.ensures.survives.limit (c.execute.ensures.runs clean)

pub returns-clause-keeps : goal.returns-clause-keeps
returns-clause-keeps g c clean =
    let mid_clean : HasCleanDisk (state g.S.Store c.prepare.new.self) = omega (arith, clean, c.execute.ensures.survives.clean) in
    let first_clean : HasCleanDisk (state g.S.Store c.args.conn.now) = omega (arith, mid_clean, c.prepare.ensures.survives.clean) in
    write_keeps _ (state g.S.Store c.prepare.new.self) _ c.args.sql.now _ _ c.requires.edit (c.requires.laid first_clean) (c.in_ok-statement.ensures.ok mid_clean) c.execute.result (c.execute.ensures.runs clean)

pub returns-clause-stop : goal.returns-clause-stop
returns-clause-stop g c =
    write_stops _ (state g.S.Store c.prepare.new.self) _ c.args.sql.now _ _ c.requires.edit c.requires.laid c.in_ok-statement.ensures.ok c.prepare.ensures.survives c.execute.ensures.survives
