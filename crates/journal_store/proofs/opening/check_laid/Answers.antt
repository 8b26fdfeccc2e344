use Rattle.std.proofs.Common.{IsTrue, arith, inl, inr, subst, sym}
use Rattle.sqlite.specs.Effect.{Database}
use Rattle.sqlite.specs.Held.{state}
use Rattle.sqlite.specs.State.{HasCleanDisk}
use Rattle.journal_store.specs.Connections.{HasNumbersBy}
use Rattle.sql_tables.proofs.Looking.{looks_then}
use Rattle.sql_tables.specs.Faults.{HasFailed}
use Rattle.journal_store.specs.Opening.{HoldsEntriesBy, IsNewer, IsUnmarkedBy, ShowsDamageBy}
use Rattle.journal_store.proofs.Checking.{damage_of, damage_on, handed_on, mid_same, opens_by, opens_of, store_found}
use Rattle.journal_store.proofs.Generic.{format_of}
use Rattle.sql_tables.proofs.Checking.{checks_err, checks_since}
use Rattle.journal_store.proofs.opening.check_laid.Goals as goal

pub returns-clause-store : goal.returns-clause-store
returns-clause-store g c clean =
    let format = c.in_ok-check_format.ensures in
    let numbers = c.in_ok-check_numbers.ensures in
    let entries = c.check_entries.ensures in
    store_found (format_of g.F.Layout g.F.Format) (state g.S.Store c.args.conn.now) (state g.S.Store c.check_format.new.conn) (state g.S.Store c.check_numbers.new.conn) (state g.S.Store c.check_entries.new.conn) c.check_entries.result
    format.checks.looks c.requires.laid numbers.checks.looks entries.checks.looks clean format.known numbers.numbered (entries.holds clean) (entries.checks.is_open clean)

pub returns-in_err-check_format-clause-cause : goal.returns-in_err-check_format-clause-cause
returns-in_err-check_format-clause-cause g c clean =
    let old = state g.S.Store c.args.conn.now in
    handed_on (IsNewer old) (IsUnmarkedBy g.F.Format.number old) (ShowsDamageBy (format_of g.F.Layout g.F.Format) old) (λ unmarked. inl unmarked) c.from_residual.result c.in_err-check_format.field-0.0 c.from_residual.ensures.1 (c.in_err-check_format.ensures.cause clean)

pub returns-in_err-check_numbers-clause-cause : goal.returns-in_err-check_numbers-clause-cause
returns-in_err-check_numbers-clause-cause g c clean =
    let old = state g.S.Store c.args.conn.now in
    let marked = state g.S.Store c.check_format.new.conn in
    let new = state g.S.Store c.check_numbers.new.conn in
    let format = c.in_ok-check_format.ensures in
    let numbers = c.in_err-check_numbers.ensures in
    let early : HasCleanDisk marked = omega (arith, clean, numbers.checks.looks.quiet.clean) in
    let same = mid_same old marked new format.checks.looks c.requires.laid numbers.checks.looks clean in
    damage_of (IsNewer old) (IsTrue new.is_open × (HasNumbersBy g.F.Format.tree marked.now.trees → ⊥)) (ShowsDamageBy (format_of g.F.Layout g.F.Format) old)
    (λ it. inr (record { format = format.known early; rows = inl (λ are. it.1 (subst (λ (d : Database). HasNumbersBy g.F.Format.tree d.trees) (sym (same it.0)) are)) }))
    c.from_residual-in_err-check_numbers.result c.in_err-check_numbers.field-0.0 c.from_residual-in_err-check_numbers.ensures.1 (numbers.cause clean)

pub returns-clause-cause : goal.returns-clause-cause
returns-clause-cause g c clean =
    let old = state g.S.Store c.args.conn.now in
    let marked = state g.S.Store c.check_format.new.conn in
    let numbered = state g.S.Store c.check_numbers.new.conn in
    let new = state g.S.Store c.check_entries.new.conn in
    let format = c.in_ok-check_format.ensures in
    let numbers = c.in_ok-check_numbers.ensures in
    let entries = c.check_entries.ensures in
    let later : HasCleanDisk numbered = omega (arith, clean, entries.checks.looks.quiet.clean) in
    let early : HasCleanDisk marked = omega (arith, later, numbers.checks.looks.quiet.clean) in
    let to_numbered = looks_then old marked numbered format.checks.looks numbers.checks.looks in
    let same = mid_same old numbered new to_numbered c.requires.laid entries.checks.looks clean in
    damage_on (IsNewer old) (IsTrue new.is_open × (HoldsEntriesBy (format_of g.F.Layout g.F.Format) numbered.now.trees → ⊥)) (ShowsDamageBy (format_of g.F.Layout g.F.Format) old)
    (λ it. inr (record { format = format.known early; rows = inr (λ holds. it.1 (subst (λ (d : Database). HoldsEntriesBy (format_of g.F.Layout g.F.Format) d.trees) (sym (same it.0)) holds)) }))
    c.check_entries.result (entries.cause clean)

pub returns-in_err-check_format-clause-checks : goal.returns-in_err-check_format-clause-checks
returns-in_err-check_format-clause-checks g c =
    let failure = HasFailed (state g.S.Store c.args.conn.now) (state g.S.Store c.check_format.new.conn) in
    checks_err _ _ _ c.in_err-check_format.field-0.0 c.from_residual.result c.from_residual.ensures.1 (opens_of failure failure (λ it. it) c.from_residual.result c.in_err-check_format.field-0.0 c.from_residual.ensures.1) c.in_err-check_format.ensures.checks

pub returns-in_err-check_numbers-clause-checks : goal.returns-in_err-check_numbers-clause-checks
returns-in_err-check_numbers-clause-checks g c =
    let failure = HasFailed (state g.S.Store c.check_format.new.conn) (state g.S.Store c.check_numbers.new.conn) in
    checks_since _ _ _ c.from_residual-in_err-check_numbers.result opens_by c.in_ok-check_format.ensures.checks.looks
    (checks_err _ _ _ c.in_err-check_numbers.field-0.0 c.from_residual-in_err-check_numbers.result c.from_residual-in_err-check_numbers.ensures.1 (opens_of failure failure (λ it. it) c.from_residual-in_err-check_numbers.result c.in_err-check_numbers.field-0.0 c.from_residual-in_err-check_numbers.ensures.1) c.in_err-check_numbers.ensures.checks)

pub returns-clause-checks : goal.returns-clause-checks
returns-clause-checks g c =
    checks_since _ _ _ c.check_entries.result opens_by (looks_then _ _ _ c.in_ok-check_format.ensures.checks.looks c.in_ok-check_numbers.ensures.checks.looks) c.check_entries.ensures.checks
