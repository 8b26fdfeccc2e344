use Rattle.std.proofs.Common.{arith, of_z, to_z, w64, subst, sym}
use Rattle.sqlite.specs.Held.{state}
use Rattle.sqlite.specs.State.{HasCleanDisk}
use Rattle.provider_store.proofs.Texts.{outside_is}
use Rattle.provider_store.proofs.Checking.{rows_fail, told_fails, is_for, outside_found, within_found, beside_found}
use Rattle.provider_store.specs.Opening.{OpenFailsFor}
use Rattle.provider_store.proofs.Giving.{outside_given}
use Rattle.sql_tables.proofs.Values.{bound_int}
use Rattle.sql_tables.proofs.Results.{on_ok, if_err}
use Rattle.sql_tables.specs.Faults.{HasFailed, statement_fault}
use Rattle.sql_tables.proofs.Checking.{checks_by, checks_fail}
use Rattle.provider_store.proofs.opening.check_rest.Goals as goal

pub ask-requires-clause-query : goal.ask-requires-clause-query
ask-requires-clause-query g c = outside_is.reads

pub returns-in-Ok-clause-none : goal.returns-in-Ok-clause-none
returns-in-Ok-clause-none g c clean =
    let early : HasCleanDisk (state g.S.Store c.args.conn.now) = omega (arith, clean, c.in-Ok.ensures.checks.looks.quiet.clean) in
    let laid = c.requires.laid early ((c.in-Ok.ensures.checks.looks.keeps clean).was_open (c.in-Ok.ensures.checks.is_open clean)) in
    on_ok c.none_in.result
    (outside_found (state g.S.Store c.args.conn.now) _ c.args.count c.in-Ok.rows.items c.as_slice.result.now (bound_int c.from.result c.args.count c.from.ensures (omega (arith, c.ranges.count.fits))) c.as_slice.ensures.value laid (c.in-Ok.ensures.rows clean))
    c.none_in.ensures.none

pub returns-in-Ok-clause-within : goal.returns-in-Ok-clause-within
returns-in-Ok-clause-within g c clean =
    let early : HasCleanDisk (state g.S.Store c.args.conn.now) = omega (arith, clean, c.in-Ok.ensures.checks.looks.quiet.clean) in
    let laid = c.requires.laid early ((c.in-Ok.ensures.checks.looks.keeps clean).was_open (c.in-Ok.ensures.checks.is_open clean)) in
    on_ok c.none_in.result
    (within_found (state g.S.Store c.args.conn.now) _ c.args.count c.in-Ok.rows.items c.as_slice.result.now (bound_int c.from.result c.args.count c.from.ensures (omega (arith, c.ranges.count.fits))) c.as_slice.ensures.value laid (c.in-Ok.ensures.rows clean))
    c.none_in.ensures.none

pub returns-in-Ok-clause-cause : goal.returns-in-Ok-clause-cause
returns-in-Ok-clause-cause g c clean =
    let early : HasCleanDisk (state g.S.Store c.args.conn.now) = omega (arith, clean, c.in-Ok.ensures.checks.looks.quiet.clean) in
    let laid = c.requires.laid early ((c.in-Ok.ensures.checks.looks.keeps clean).was_open (c.in-Ok.ensures.checks.is_open clean)) in
    if_err c.none_in.result
    (λ fault cause. is_for (λ none. none)
    (λ told d. (
      c.in-Ok.ensures.checks.is_open clean,
      beside_found (state g.S.Store c.args.conn.now) _ c.args.count c.in-Ok.rows.items c.as_slice.result.now (bound_int c.from.result c.args.count c.from.ensures (omega (arith, c.ranges.count.fits))) c.as_slice.ensures.value laid (c.in-Ok.ensures.rows clean) d.0 told d.1 d.2,
    )) fault cause)
    c.none_in.ensures.cause

pub ask-requires-clause-given : goal.ask-requires-clause-given
ask-requires-clause-given g c = outside_given (to_z w64 (of_z w64 c.from.result))

pub returns-in-Ok-clause-checks : goal.returns-in-Ok-clause-checks
returns-in-Ok-clause-checks g c =
    let failure = HasFailed (state g.S.Store c.args.conn.now) (state g.S.Store c.ask.new.conn) in
    checks_by _ _ c.in-Ok.rows c.none_in.result (if_err c.none_in.result (rows_fail failure) c.none_in.ensures.read) c.in-Ok.ensures.checks

pub returns-in-Err-clause-checks : goal.returns-in-Err-clause-checks
returns-in-Err-clause-checks g c =
    let failure = HasFailed (state g.S.Store c.args.conn.now) (state g.S.Store c.ask.new.conn) in
    checks_fail _ _ c.in-Err.error c.from-in-Err.result (λ fails. subst (OpenFailsFor failure) (sym c.from-in-Err.ensures.0) (told_fails failure (statement_fault c.in-Err.error) fails)) c.in-Err.ensures.checks
