use Rattle.std.proofs.Common.{arith, of_z, to_z, w64, subst, sym}
use Rattle.sqlite.specs.Held.{state}
use Rattle.sqlite.specs.State.{HasCleanDisk}
use Rattle.provider_store.proofs.Texts.{numbered_is}
use Rattle.provider_store.proofs.Finding.{number_found}
use Rattle.provider_store.proofs.Giving.{numbered_given}
use Rattle.sql_tables.proofs.Values.{bound_int}
use Rattle.sql_tables.specs.Faults.{FailsFor, HasFailed}
use Rattle.sql_tables.proofs.Checking.{checks_fail}
use Rattle.provider_store.proofs.tables.find_numbered.Goals as goal

pub ask-requires-clause-query : goal.ask-requires-clause-query
ask-requires-clause-query g c = numbered_is.reads

pub returns-in_ok-only-in-Ok-clause-found : goal.returns-in_ok-only-in-Ok-clause-found
returns-in_ok-only-in-Ok-clause-found g c clean =
    let early : HasCleanDisk (state g.S.Store c.args.conn.now) = omega (arith, clean, c.in-Ok.ensures.checks.looks.quiet.clean) in
    let laid = c.requires.laid early ((c.in-Ok.ensures.checks.looks.keeps clean).was_open (c.in-Ok.ensures.checks.is_open clean)) in
    number_found (state g.S.Store c.args.conn.now) c.args.number _ c.in-Ok.rows.items c.as_slice.result.now c.in_ok-only-in-Ok.field-0 (bound_int c.from.result c.args.number c.from.ensures (omega (arith, c.ranges.number.fits))) c.as_slice.ensures.value laid (c.in-Ok.ensures.rows clean) c.in_ok-only-in-Ok.ensures

pub ask-requires-clause-given : goal.ask-requires-clause-given
ask-requires-clause-given g c = numbered_given (to_z w64 (of_z w64 c.from.result))

pub returns-in-Err-clause-checks : goal.returns-in-Err-clause-checks
returns-in-Err-clause-checks g c =
    let failure = HasFailed (state g.S.Store c.args.conn.now) (state g.S.Store c.ask.new.conn) in
    checks_fail _ _ c.in-Err.error c.statement_fault.result (λ fails. subst (FailsFor failure) (sym c.statement_fault.ensures) fails) c.in-Err.ensures.checks
