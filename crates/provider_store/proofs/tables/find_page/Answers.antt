use Rattle.std.proofs.Common.{◌+ℤ◌, suc, pos, of_z, to_z, w64, arith, ap, subst, sym, ◌∙◌}
use Rattle.sqlite.specs.Held.{state}
use Rattle.sqlite.specs.State.{HasCleanDisk}
use Rattle.provider_store.proofs.Texts.{page_is}
use Rattle.provider_store.proofs.Paging.{page_broken, page_found}
use Rattle.sql_tables.proofs.Values.{bound_int}
use Rattle.provider_store.proofs.Giving.{page_given}
use Rattle.sql_tables.specs.Faults.{FailsFor, HasFailed}
use Rattle.sql_tables.proofs.Checking.{checks_fail}
use Rattle.provider_store.proofs.tables.find_page.Goals as goal

pub ask-requires-clause-query : goal.ask-requires-clause-query
ask-requires-clause-query g c = page_is.reads

pub ask-requires-clause-given : goal.ask-requires-clause-given
ask-requires-clause-given g c = page_given _ _

pub returns-in_ok-read_page-in-Ok-clause-found : goal.returns-in_ok-read_page-in-Ok-clause-found
returns-in_ok-read_page-in-Ok-clause-found g c clean =
    let early : HasCleanDisk (state g.S.Store c.args.conn.now) = omega (arith, clean, c.in-Ok.ensures.checks.looks.quiet.clean) in
    let laid = c.requires.laid early ((c.in-Ok.ensures.checks.looks.keeps clean).was_open (c.in-Ok.ensures.checks.is_open clean)) in
    page_found (state g.S.Store c.args.conn.now) c.args.after c.args.last _ _ c.in-Ok.rows.items c.as_slice.result.now
    (bound_int (to_z w64 (of_z w64 c.from.result) +ℤ pos 1) (suc c.args.after) (ap (λ z. z +ℤ pos 1) (bound_int c.from.result c.args.after c.from.ensures (omega (arith, c.ranges.after.fits))) ∙ ap pos (omega arith)) (omega (arith, c.ranges.after.fits)))
    (bound_int c.from-2.result c.args.last c.from-2.ensures (omega (arith, c.ranges.last.fits))) c.as_slice.ensures.value laid (c.in-Ok.ensures.rows clean) (λ page. page.items) c.in_ok-read_page-in-Ok.field-0 c.in_ok-read_page-in-Ok.ensures.some

pub returns-in_ok-read_page-in-Ok-clause-broken : goal.returns-in_ok-read_page-in-Ok-clause-broken
returns-in_ok-read_page-in-Ok-clause-broken g c clean =
    let early : HasCleanDisk (state g.S.Store c.args.conn.now) = omega (arith, clean, c.in-Ok.ensures.checks.looks.quiet.clean) in
    let laid = c.requires.laid early ((c.in-Ok.ensures.checks.looks.keeps clean).was_open (c.in-Ok.ensures.checks.is_open clean)) in
    page_broken (state g.S.Store c.args.conn.now) c.args.after c.args.last _ _ c.in-Ok.rows.items c.as_slice.result.now
    (bound_int (to_z w64 (of_z w64 c.from.result) +ℤ pos 1) (suc c.args.after) (ap (λ z. z +ℤ pos 1) (bound_int c.from.result c.args.after c.from.ensures (omega (arith, c.ranges.after.fits))) ∙ ap pos (omega arith)) (omega (arith, c.ranges.after.fits)))
    (bound_int c.from-2.result c.args.last c.from-2.ensures (omega (arith, c.ranges.last.fits))) c.as_slice.ensures.value laid (c.in-Ok.ensures.rows clean) c.in_ok-read_page-in-Ok.field-0 c.in_ok-read_page-in-Ok.ensures.none

pub returns-in-Err-clause-checks : goal.returns-in-Err-clause-checks
returns-in-Err-clause-checks g c =
    let failure = HasFailed (state g.S.Store c.args.conn.now) (state g.S.Store c.ask.new.conn) in
    checks_fail _ _ c.in-Err.error c.statement_fault.result (λ fails. subst (FailsFor failure) (sym c.statement_fault.ensures) fails) c.in-Err.ensures.checks
