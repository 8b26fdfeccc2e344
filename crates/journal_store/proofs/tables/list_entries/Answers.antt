use Rattle.std.proofs.Common.{IsTrue, arith, refl, subst, sym}
use Rattle.sqlite.specs.Held.{state}
use Rattle.sqlite.specs.State.{HasCleanDisk}
use Rattle.sql_tables.specs.Faults.{statement_fault as fault_of}
use Rattle.journal_store.proofs.Failing.{fails_as}
use Rattle.sql_tables.proofs.Results.{if_err}
use Rattle.sql_tables.specs.Faults.{HasFailed}
use Rattle.journal_store.specs.Connections.{IsUnshownBy, ListsNoneBy, Shows}
use Rattle.journal_store.proofs.Finding.{listed_by}
use Rattle.journal_store.proofs.Refusing.{cause_by, unlisted}
use Rattle.journal_store.specs.Faults.{FailsFor}
use Rattle.journal_store.proofs.Failing.{row_fails}
use Rattle.sql_tables.proofs.Checking.{checks_by, checks_fail}
use Rattle.journal_store.proofs.tables.list_entries.Goals as goal

pub ask-requires-clause-query : goal.ask-requires-clause-query
ask-requires-clause-query g c = c.list_statement.ensures.query

pub returns-in-Ok-clause-all : goal.returns-in-Ok-clause-all
returns-in-Ok-clause-all g c clean =
    let early : HasCleanDisk (state g.S.Store c.args.conn.now) = omega (arith, clean, c.in-Ok.ensures.checks.looks.quiet.clean) in
    let laid = c.requires.laid early ((c.in-Ok.ensures.checks.looks.keeps clean).was_open (c.in-Ok.ensures.checks.is_open clean)) in
    listed_by (Shows c.args.kind) (g.F.Format.tree c.args.kind) (g.F.Format.columns c.args.kind) (λ list. list.items) (state g.S.Store c.args.conn.now) c.list_statement.result.now c.in-Ok.rows.items c.in-Ok.rows.items c.read_all.result
    c.list_statement.ensures.lists c.list_statement.ensures.given refl laid (c.in-Ok.ensures.rows clean) c.read_all.ensures.some

pub returns-in-Ok-clause-none : goal.returns-in-Ok-clause-none
returns-in-Ok-clause-none g c clean =
    let early : HasCleanDisk (state g.S.Store c.args.conn.now) = omega (arith, clean, c.in-Ok.ensures.checks.looks.quiet.clean) in
    let still = c.in-Ok.ensures.checks.is_open clean in
    let laid = c.requires.laid early ((c.in-Ok.ensures.checks.looks.keeps clean).was_open still) in
    if_err c.read_all.result (λ fault. cause_by (IsUnshownBy (Shows c.args.kind) c.in-Ok.rows.items) (IsTrue (state g.S.Store c.ask.new.conn).is_open × ListsNoneBy (Shows c.args.kind) (g.F.Format.columns c.args.kind) ((state g.S.Store c.args.conn.now).now.trees (g.F.Format.tree c.args.kind)))
    (λ unshown. (still, unlisted c.args.kind (Shows c.args.kind) (λ r e it. (it.key, it.kind_is)) (g.F.Format.tree c.args.kind) (g.F.Format.columns c.args.kind) (state g.S.Store c.args.conn.now) c.list_statement.result.now c.in-Ok.rows.items c.in-Ok.rows.items c.list_statement.ensures.lists c.list_statement.ensures.given refl laid (c.in-Ok.ensures.rows clean) unshown)) fault)
    c.read_all.ensures.none

pub returns-in-Err-clause-none : goal.returns-in-Err-clause-none
returns-in-Err-clause-none g c clean =
    cause_by ⊥ (IsTrue (state g.S.Store c.ask.new.conn).is_open × ListsNoneBy (Shows c.args.kind) (g.F.Format.columns c.args.kind) ((state g.S.Store c.args.conn.now).now.trees (g.F.Format.tree c.args.kind))) (λ none. absurd none) c.from.result c.from.ensures.1

pub ask-requires-clause-given : goal.ask-requires-clause-given
ask-requires-clause-given g c = c.list_statement.ensures.given

pub returns-in-Ok-clause-checks : goal.returns-in-Ok-clause-checks
returns-in-Ok-clause-checks g c =
    let failure = HasFailed (state g.S.Store c.args.conn.now) (state g.S.Store c.ask.new.conn) in
    checks_by _ _ c.in-Ok.rows c.read_all.result (if_err c.read_all.result (row_fails failure) c.read_all.ensures.read) c.in-Ok.ensures.checks

pub returns-in-Err-clause-checks : goal.returns-in-Err-clause-checks
returns-in-Err-clause-checks g c =
    let failure = HasFailed (state g.S.Store c.args.conn.now) (state g.S.Store c.ask.new.conn) in
    checks_fail _ _ c.in-Err.error c.from.result (λ fails. subst (FailsFor failure) (sym c.from.ensures.0) (fails_as failure (fault_of c.in-Err.error) fails)) c.in-Err.ensures.checks
