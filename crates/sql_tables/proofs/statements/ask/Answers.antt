use Rattle.std.proofs.Common.{[], arith, rules}
use Rattle.sqlite.specs.Held.{state}
use Rattle.sqlite.specs.State.{FailsToQuery, HasCleanDisk}
use Rattle.sqlite.specs.Values.{bound}
use Rattle.sql_tables.proofs.Keeping.{not_run_keeps}
use Rattle.sql_tables.proofs.Asking.{answers, ask_fails, ask_keeps, ask_quiet, not_run_fails, stays_open}
use Rattle.sql_tables.proofs.Failing.{failed_by}
use Rattle.sql_tables.proofs.Results.{handed_error}
use Rattle.sql_tables.proofs.statements.ask.Goals as goal

pub returns-clause-rows : goal.returns-clause-rows
returns-clause-rows g c clean =
    let mid_clean : HasCleanDisk (state g.S.Store c.prepare.new.self) = omega (arith, clean, c.query_all.ensures.survives.clean) in
    let first_clean : HasCleanDisk (state g.S.Store c.args.conn.now) = omega (arith, mid_clean, c.prepare.ensures.survives.clean) in
    answers (λ rows. rows.items) _ (state g.S.Store c.prepare.new.self) _ c.args.sql.now _ _ c.requires.query (c.requires.laid first_clean) (c.in_ok-statement.ensures.ok mid_clean) c.query_all.result (c.query_all.ensures.ok clean)

pub returns-in_err-statement-clause-fails : goal.returns-in_err-statement-clause-fails
returns-in_err-statement-clause-fails g c clean =
    handed_error (FailsToQuery c.args.sql.now (bound c.args.params.now) (state g.S.Store c.args.conn.now) (state g.S.Store c.prepare.new.self)) c.from_residual.result c.in_err-statement.field-0.0 c.from_residual.ensures.1
    (not_run_fails _ _ _ _ _ (c.in_err-statement.ensures.err clean (bound c.args.params.now)))

pub returns-clause-fails : goal.returns-clause-fails
returns-clause-fails g c clean =
    let mid_clean : HasCleanDisk (state g.S.Store c.prepare.new.self) = omega (arith, clean, c.query_all.ensures.survives.clean) in
    let first_clean : HasCleanDisk (state g.S.Store c.args.conn.now) = omega (arith, mid_clean, c.prepare.ensures.survives.clean) in
    ask_fails (λ rows. rows.items) _ (state g.S.Store c.prepare.new.self) _ c.args.sql.now _ _ c.requires.query (c.requires.laid first_clean) (c.in_ok-statement.ensures.ok mid_clean) c.query_all.result c.prepare.ensures.survives.counts c.prepare.ensures.survives.limit (c.query_all.ensures.err clean)

pub returns-in_err-statement-clause-checks : goal.returns-in_err-statement-clause-checks
returns-in_err-statement-clause-checks g c = record {
  failed = λ clean.
      let first_clean : HasCleanDisk (state g.S.Store c.args.conn.now) = omega (arith, clean, c.prepare.ensures.survives.clean) in
      failed_by c.from_residual.result (state g.S.Store c.args.conn.now) (state g.S.Store c.prepare.new.self) c.args.sql.now (bound c.args.params.now) c.requires.query c.requires.given (c.requires.laid first_clean) (returns-in_err-statement-clause-fails g c clean);
  is_open = search rules;
  looks = record { keeps = λ clean. not_run_keeps _ _ _ _ _ (c.in_err-statement.ensures.err clean []); quiet = search rules };
}

pub returns-clause-checks : goal.returns-clause-checks
returns-clause-checks g c =
    let mid_clean : HasCleanDisk (state g.S.Store c.query_all.new.conn) → HasCleanDisk (state g.S.Store c.prepare.new.self) = λ clean. omega (arith, clean, c.query_all.ensures.survives.clean) in
    let laid = λ (clean : HasCleanDisk (state g.S.Store c.query_all.new.conn)). c.requires.laid (omega (arith, mid_clean clean, c.prepare.ensures.survives.clean)) in
    record {
      failed = λ clean. failed_by c.query_all.result (state g.S.Store c.args.conn.now) (state g.S.Store c.query_all.new.conn) c.args.sql.now (bound c.args.params.now) c.requires.query c.requires.given (laid clean) (returns-clause-fails g c clean);
      is_open = λ clean. stays_open (λ rows. rows.items) _ (state g.S.Store c.prepare.new.self) _ c.args.sql.now _ _ c.requires.query (laid clean) (c.in_ok-statement.ensures.ok (mid_clean clean)) c.query_all.result (c.query_all.ensures.ok clean);
      looks = record {
        keeps = λ clean. ask_keeps (λ rows. rows.items) _ (state g.S.Store c.prepare.new.self) _ c.args.sql.now _ _ c.requires.query (laid clean) (c.in_ok-statement.ensures.ok (mid_clean clean)) c.query_all.result (c.query_all.ensures.ok clean) (c.query_all.ensures.err clean);
        quiet = ask_quiet _ (state g.S.Store c.prepare.new.self) _ c.args.sql.now _ _ c.requires.query c.requires.laid c.in_ok-statement.ensures.ok c.prepare.ensures.survives c.query_all.ensures.survives;
      };
    }
