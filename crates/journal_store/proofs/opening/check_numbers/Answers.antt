use Rattle.std.proofs.Common.{IsTrue, subst, sym}
use Rattle.sqlite.specs.Effect.{Database}
use Rattle.sqlite.specs.Held.{state}
use Rattle.scim_key.specs.declared.records.Kind.TheVariants.{User, Group}
use Rattle.journal_store.specs.Connections.{AreNumbered, HasNumbersBy}
use Rattle.sql_tables.specs.Faults.{HasFailed}
use Rattle.journal_store.proofs.Checking.{damage_of, damage_on, mid_same, numbers_both, opens_by, opens_of}
use Rattle.sql_tables.proofs.Checking.{checks_err, checks_since}
use Rattle.journal_store.proofs.opening.check_numbers.Goals as goal

pub returns-clause-numbered : goal.returns-clause-numbered
returns-clause-numbered g c clean =
    let first = c.in_ok-check_table.ensures in
    let second = c.check_table-2.ensures in
    numbers_both (state g.S.Store c.args.conn.now) (state g.S.Store c.check_table.new.conn) (state g.S.Store c.check_table-2.new.conn) first.checks.looks c.requires.laid second.checks.looks clean g.F.Format.tree c.check_table-2.result first.numbered (second.numbered clean) (second.checks.is_open clean)

pub returns-in_err-check_table-clause-cause : goal.returns-in_err-check_table-clause-cause
returns-in_err-check_table-clause-cause g c clean =
    let old = state g.S.Store c.args.conn.now in
    let still = IsTrue (state g.S.Store c.check_table.new.conn).is_open in
    damage_of ⊥ (still × (AreNumbered (old.now.trees (g.F.Format.tree User)) → ⊥)) (still × (HasNumbersBy g.F.Format.tree old.now.trees → ⊥)) (λ it. (it.0, λ numbers. it.1 numbers.users))
    c.from_residual.result c.in_err-check_table.field-0.0 c.from_residual.ensures.1 (c.in_err-check_table.ensures.cause clean)

pub returns-clause-cause : goal.returns-clause-cause
returns-clause-cause g c clean =
    let old = state g.S.Store c.args.conn.now in
    let mid = state g.S.Store c.check_table.new.conn in
    let new = state g.S.Store c.check_table-2.new.conn in
    let same = mid_same old mid new c.in_ok-check_table.ensures.checks.looks c.requires.laid c.check_table-2.ensures.checks.looks clean in
    damage_on ⊥ (IsTrue new.is_open × (AreNumbered (mid.now.trees (g.F.Format.tree Group)) → ⊥)) (IsTrue new.is_open × (HasNumbersBy g.F.Format.tree old.now.trees → ⊥))
    (λ it. (it.0, λ numbers. it.1 (subst (λ (d : Database). AreNumbered (d.trees (g.F.Format.tree Group))) (sym (same it.0)) numbers.groups)))
    c.check_table-2.result (c.check_table-2.ensures.cause clean)

pub returns-in_err-check_table-clause-checks : goal.returns-in_err-check_table-clause-checks
returns-in_err-check_table-clause-checks g c =
    let failure = HasFailed (state g.S.Store c.args.conn.now) (state g.S.Store c.check_table.new.conn) in
    checks_err _ _ _ c.in_err-check_table.field-0.0 c.from_residual.result c.from_residual.ensures.1 (opens_of failure failure (λ it. it) c.from_residual.result c.in_err-check_table.field-0.0 c.from_residual.ensures.1) c.in_err-check_table.ensures.checks

pub returns-clause-checks : goal.returns-clause-checks
returns-clause-checks g c = checks_since _ _ _ c.check_table-2.result opens_by c.in_ok-check_table.ensures.checks.looks c.check_table-2.ensures.checks
