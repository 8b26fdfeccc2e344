use Rattle.std.proofs.Common.{◌≡◌, ◌+◌, IsTrue, subst, arith, rules, tests}
use Rattle.sqlite.specs.Held.{state}
use Rattle.sqlite.specs.State.{HasCleanDisk}
use Rattle.provider_store.specs.Connections.{resources}
use Rattle.provider_store.specs.Lawful.{IsLawfulAt, IsFirstWrong, IsWrong}
use Rattle.provider_store.proofs.Refusing.{next_lawful, first_wrong}
use Rattle.provider_store.proofs.Checking.{damage_of, same_rows}
use Rattle.provider_store.proofs.Checking.{opens_of}
use Rattle.sql_tables.proofs.Looking.{looks_same, looks_then}
use Rattle.sql_tables.specs.Faults.{HasFailed}
use Rattle.sql_tables.proofs.Failing.{failed_since}
use Rattle.provider_store.proofs.opening.check_from.Goals as goal

pub loop-count-init : goal.loop-count-init
loop-count-init g c = (looks_same (state g.S.Store c.args.conn.now), c.requires.before)

pub loop-count-preserved : goal.loop-count-preserved
loop-count-preserved g c =
    let so_far = c.loop-count.invariant in
    let step = c.in_ok-check_row.ensures in (
      looks_then (state g.S.Store c.args.conn.now) (state g.S.Store c.loop-count.conn) (state g.S.Store c.check_row.new.conn) so_far.0 step.checks.looks,
      λ clean.
          let mid_clean : HasCleanDisk (state g.S.Store c.loop-count.conn) = omega (arith, clean, step.checks.looks.quiet.clean) in
          let still = (step.checks.looks.keeps clean).was_open (step.checks.is_open clean) in
          let table = same_rows (state g.S.Store c.args.conn.now) (state g.S.Store c.loop-count.conn) so_far.0 c.requires.laid mid_clean still in
          let is : IsTrue c.in_ok-check_row.field-0 = search (rules, tests) in
          next_lawful (resources (state g.S.Store c.args.conn.now)) c.loop-count.count (so_far.1 mid_clean) (subst (λ rows. IsLawfulAt rows (c.loop-count.count + 1)) table (step.lawful clean is)),
    )

pub returns-in_err-check_row-clause-cause : goal.returns-in_err-check_row-clause-cause
returns-in_err-check_row-clause-cause g c clean =
    let so_far = c.loop-count.invariant in
    let err = c.in_err-check_row.ensures in
    let mid_clean : HasCleanDisk (state g.S.Store c.loop-count.conn) = omega (arith, clean, err.checks.looks.quiet.clean) in
    damage_of ⊥ (λ told. IsTrue (state g.S.Store c.check_row.new.conn).is_open × (told ≡ c.loop-count.count + 1) × IsWrong (resources (state g.S.Store c.loop-count.conn)) (c.loop-count.count + 1))
    (λ told. IsTrue (state g.S.Store c.check_row.new.conn).is_open × IsFirstWrong (resources (state g.S.Store c.args.conn.now)) told)
    (λ told it.
    let still = (err.checks.looks.keeps clean).was_open it.0 in
    let table = same_rows (state g.S.Store c.args.conn.now) (state g.S.Store c.loop-count.conn) so_far.0 c.requires.laid mid_clean still in
    (it.0, first_wrong (resources (state g.S.Store c.args.conn.now)) c.loop-count.count told (so_far.1 mid_clean) it.1 (subst (λ rows. IsWrong rows (c.loop-count.count + 1)) table it.2)))
    c.from_residual.result c.in_err-check_row.field-0.0 c.from_residual.ensures.1 (err.cause clean)

pub returns-in_err-check_row-clause-failed : goal.returns-in_err-check_row-clause-failed
returns-in_err-check_row-clause-failed g c clean =
    let old = state g.S.Store c.args.conn.now in
    let mid = state g.S.Store c.loop-count.conn in
    let new = state g.S.Store c.check_row.new.conn in
    let so_far = c.loop-count.invariant.0 in
    let err = c.in_err-check_row.ensures in
    let mid_clean : HasCleanDisk mid = omega (arith, clean, err.checks.looks.quiet.clean) in
    opens_of (HasFailed mid new) (HasFailed old new) (failed_since old mid new so_far.quiet mid_clean err.checks.looks.quiet.counts) c.from_residual.result c.in_err-check_row.field-0.0 c.from_residual.ensures.1 (err.checks.failed clean)
