use Rattle.std.proofs.Common.{◌≡◌, length, ap, arith, rules, subst, sym, tests}
use Rattle.sqlite.specs.Held.{state}
use Rattle.sqlite.specs.State.{HasCleanDisk}
use Rattle.sql_tables.specs.Faults.{HasFailed, statement_fault}
use Rattle.provider_store.specs.Opening.{OpenFailsFor}
use Rattle.provider_store.proofs.Checking.{told_fails}
use Rattle.provider_store.proofs.Giving.{unnumbered_given}
use Rattle.provider_store.proofs.Naming.{nothing_in, numbered_found, unnumbered_found}
use Rattle.provider_store.proofs.Texts.{unnumbered_is}
use Rattle.sql_tables.proofs.Checking.{checks_fail}
use Rattle.provider_store.proofs.opening.are_numbered.Goals as goal

pub ask-requires-clause-query : goal.ask-requires-clause-query
ask-requires-clause-query g c = unnumbered_is.reads

pub ask-requires-clause-given : goal.ask-requires-clause-given
ask-requires-clause-given g c = unnumbered_given

pub returns-in-Ok-clause-all : goal.returns-in-Ok-clause-all
returns-in-Ok-clause-all g c clean is =
    let early : HasCleanDisk (state g.S.Store c.args.conn.now) = omega (arith, clean, c.in-Ok.ensures.checks.looks.quiet.clean) in
    let laid = c.requires.laid early ((c.in-Ok.ensures.checks.looks.keeps clean).was_open (c.in-Ok.ensures.checks.is_open clean)) in
    let size : length c.in-Ok.rows.items ≡ 0 = search (rules, tests) in
    numbered_found (state g.S.Store c.args.conn.now) c.in-Ok.rows.items laid (c.in-Ok.ensures.rows clean) (nothing_in c.in-Ok.rows.items size)

pub returns-in-Ok-clause-some : goal.returns-in-Ok-clause-some
returns-in-Ok-clause-some g c clean is numbered =
    let early : HasCleanDisk (state g.S.Store c.args.conn.now) = omega (arith, clean, c.in-Ok.ensures.checks.looks.quiet.clean) in
    let laid = c.requires.laid early ((c.in-Ok.ensures.checks.looks.keeps clean).was_open (c.in-Ok.ensures.checks.is_open clean)) in
    let none = unnumbered_found (state g.S.Store c.args.conn.now) c.in-Ok.rows.items laid (c.in-Ok.ensures.rows clean) numbered in
    let size : length c.in-Ok.rows.items ≡ 0 = ap length none in
    search (rules, tests)

pub returns-in-Err-clause-checks : goal.returns-in-Err-clause-checks
returns-in-Err-clause-checks g c =
    let failure = HasFailed (state g.S.Store c.args.conn.now) (state g.S.Store c.ask.new.conn) in
    checks_fail _ _ c.in-Err.error c.from.result (λ fails. subst (OpenFailsFor failure) (sym c.from.ensures.0) (told_fails failure (statement_fault c.in-Err.error) fails)) c.in-Err.ensures.checks
