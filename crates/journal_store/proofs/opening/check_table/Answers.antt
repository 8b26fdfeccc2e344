use Rattle.std.proofs.Common.{IsTrue, arith, subst, sym}
use Rattle.sqlite.specs.Held.{state}
use Rattle.sqlite.specs.State.{HasCleanDisk}
use Rattle.journal_store.specs.Connections.{AreNumbered}
use Rattle.sql_tables.proofs.Results.{if_err, on_ok}
use Rattle.sql_tables.specs.Faults.{HasFailed}
use Rattle.journal_store.specs.Opening.{IsUnnumbered}
use Rattle.sql_tables.specs.Faults.{statement_fault as fault_of}
use Rattle.journal_store.proofs.Failing.{fails_as}
use Rattle.journal_store.proofs.Checking.{damage_on, no_damage, numbers_found, rows_fail, told_fails}
use Rattle.journal_store.proofs.Refusing.{unnumbered}
use Rattle.journal_store.specs.Faults.{statement_fault}
use Rattle.journal_store.specs.Opening.{OpenFailsFor}
use Rattle.sql_tables.proofs.Checking.{checks_by, checks_fail}
use Rattle.journal_store.proofs.opening.check_table.Goals as goal

pub ask-requires-clause-query : goal.ask-requires-clause-query
ask-requires-clause-query g c = c.numbers_statement.ensures.query

pub returns-in-Ok-clause-numbered : goal.returns-in-Ok-clause-numbered
returns-in-Ok-clause-numbered g c clean =
    let early : HasCleanDisk (state g.S.Store c.args.conn.now) = omega (arith, clean, c.in-Ok.ensures.checks.looks.quiet.clean) in
    let laid = c.requires.laid early ((c.in-Ok.ensures.checks.looks.keeps clean).was_open (c.in-Ok.ensures.checks.is_open clean)) in
    on_ok c.check_rising.result (numbers_found (g.F.Format.tree c.args.kind) (state g.S.Store c.args.conn.now) c.numbers_statement.result.now c.in-Ok.rows.items c.as_slice.result.now c.numbers_statement.ensures.lists c.numbers_statement.ensures.given c.as_slice.ensures.value laid (c.in-Ok.ensures.rows clean)) c.check_rising.ensures.rising

pub returns-in-Ok-clause-cause : goal.returns-in-Ok-clause-cause
returns-in-Ok-clause-cause g c clean =
    let old = state g.S.Store c.args.conn.now in
    let early : HasCleanDisk old = omega (arith, clean, c.in-Ok.ensures.checks.looks.quiet.clean) in
    let still = c.in-Ok.ensures.checks.is_open clean in
    let laid = c.requires.laid early ((c.in-Ok.ensures.checks.looks.keeps clean).was_open still) in
    damage_on ⊥ (IsUnnumbered c.as_slice.result.now) (IsTrue (state g.S.Store c.ask.new.conn).is_open × (AreNumbered (old.now.trees (g.F.Format.tree c.args.kind)) → ⊥))
    (λ fails. (still, unnumbered (g.F.Format.tree c.args.kind) old c.numbers_statement.result.now c.in-Ok.rows.items c.as_slice.result.now c.numbers_statement.ensures.lists c.numbers_statement.ensures.given c.as_slice.ensures.value laid (c.in-Ok.ensures.rows clean) fails))
    c.check_rising.result c.check_rising.ensures.cause

pub returns-in-Err-clause-cause : goal.returns-in-Err-clause-cause
returns-in-Err-clause-cause g c clean =
    let refused = IsTrue (state g.S.Store c.ask.new.conn).is_open × (AreNumbered ((state g.S.Store c.args.conn.now).now.trees (g.F.Format.tree c.args.kind)) → ⊥) in
    no_damage ⊥ refused c.from.result c.from.ensures.1

pub ask-requires-clause-given : goal.ask-requires-clause-given
ask-requires-clause-given g c = c.numbers_statement.ensures.given

pub returns-in-Ok-clause-checks : goal.returns-in-Ok-clause-checks
returns-in-Ok-clause-checks g c =
    let failure = HasFailed (state g.S.Store c.args.conn.now) (state g.S.Store c.ask.new.conn) in
    checks_by _ _ c.in-Ok.rows c.check_rising.result (if_err c.check_rising.result (rows_fail failure) c.check_rising.ensures.read) c.in-Ok.ensures.checks

pub returns-in-Err-clause-checks : goal.returns-in-Err-clause-checks
returns-in-Err-clause-checks g c =
    let failure = HasFailed (state g.S.Store c.args.conn.now) (state g.S.Store c.ask.new.conn) in
    checks_fail _ _ c.in-Err.error c.from.result (λ fails. subst (OpenFailsFor failure) (sym c.from.ensures.0) (told_fails failure failure (λ it. it) (statement_fault c.in-Err.error) (fails_as failure (fault_of c.in-Err.error) fails))) c.in-Err.ensures.checks
