use Rattle.std.proofs.Common.{◌≡◌, [], pos, filter, length, IsTrue, arith, sym, ◌∙◌, subst, inl, inr, rules}
use Rattle.sqlite_trees.specs.Tree.{has_rowid}
use Rattle.sqlite.specs.Held.{state}
use Rattle.sqlite.specs.State.{HasCleanDisk}
use Rattle.provider_store.specs.Connections.{resources}
use Rattle.provider_store.specs.Opening.{IsNewer, IsSpoilt, IsUnmarked}
use Rattle.provider_store.specs.Lawful.{AreAllLawful, AreLawfulTo, AreWithin, EndsAt, IsFirstWrong, IsOutside}
use Rattle.provider_store.proofs.Refusing.{spoilt_by}
use Rattle.sql_tables.proofs.Looking.{one_of_laid}
use Rattle.provider_store.proofs.Checking.{both_of, damage_of, first_all, first_of, opens_by, same_rows}
use Rattle.provider_store.proofs.Checking.{opens_of, sound_on}
use Rattle.sql_tables.proofs.Looking.{laid_on, was_laid, looks_then}
use Rattle.sql_tables.specs.Faults.{HasFailed}
use Rattle.sql_tables.proofs.Checking.{checks_err, checks_since}
use Rattle.provider_store.proofs.opening.check_laid.Goals as goal

pub check_rows-requires-clause-sound : goal.check_rows-requires-clause-sound
check_rows-requires-clause-sound g c clean still =
    sound_on (state g.S.Store c.args.conn.now) (state g.S.Store c.check_format.new.conn) c.in_ok-check_format.ensures.checks.looks c.requires.laid c.requires.sound clean still

pub returns-clause-store : goal.returns-clause-store
returns-clause-store g c clean =
    let old = c.args.conn.now in
    let marked = c.check_format.new.conn in
    let counted = c.check_rows.new.conn in
    let format = c.in_ok-check_format.ensures in
    let rows = c.in_ok-count.ensures in
    let rest = c.in_ok-check_rest.ensures in
    let later : HasCleanDisk (state g.S.Store counted) = omega (arith, clean, rest.checks.looks.quiet.clean) in
    let early : HasCleanDisk (state g.S.Store marked) = omega (arith, later, rows.looks.quiet.clean) in
    let still = (rest.checks.looks.keeps clean).was_open (rest.checks.is_open clean) in
    let was = (rows.looks.keeps later).was_open still in
    let to_old = same_rows (state g.S.Store old) (state g.S.Store marked) format.checks.looks c.requires.laid early was in
    let to_marked = same_rows (state g.S.Store marked) (state g.S.Store counted) rows.looks (laid_on (state g.S.Store old) (state g.S.Store marked) format.checks.looks c.requires.laid) later still in
    let lawful_to : AreLawfulTo (resources (state g.S.Store old)) c.in_ok-count.count = subst (λ table. AreLawfulTo table c.in_ok-count.count) to_old (rows.lawful later) in
    let first = first_of (resources (state g.S.Store old)) c.in_ok-count.count lawful_to in
    let none = rest.none clean in
    let holds = first_all (resources (state g.S.Store old)) first.0 first.1
    (λ n far. subst (λ table. filter (has_rowid (pos n)) table ≡ []) (to_marked ∙ to_old) (none n (omega (arith, far, first.2)))) in
    let lawful : AreAllLawful (resources (state g.S.Store old)) (length first.0) = record {
      each = subst (AreLawfulTo (resources (state g.S.Store old))) (sym first.2) lawful_to;
      within = subst (AreWithin (resources (state g.S.Store old))) (sym first.2) (subst (λ table. AreWithin table c.in_ok-count.count) (to_marked ∙ to_old) (rest.within clean));
    } in
    (first.0, record { laid = was_laid (state g.S.Store old) (state g.S.Store marked) format.checks.looks c.requires.laid early was; format = format.known early; holds = holds; lawful = lawful }, first.2)

pub returns-in_err-check_format-clause-cause : goal.returns-in_err-check_format-clause-cause
returns-in_err-check_format-clause-cause g c clean =
    let err = c.in_err-check_format.ensures in
    let early : HasCleanDisk (state g.S.Store c.args.conn.now) = omega (arith, clean, err.checks.looks.quiet.clean) in
    let old = state g.S.Store c.args.conn.now in
    let new = state g.S.Store c.check_format.new.conn in
    both_of (IsNewer old) (IsTrue new.is_open) (λ told. (told ≡ 0) × IsUnmarked old) (λ _. IsTrue new.is_open) (IsSpoilt old)
    (λ told d still. (one_of_laid old (c.requires.laid early ((err.checks.looks.keeps clean).was_open still)), inl d))
    c.from_residual.result c.in_err-check_format.field-0.0 c.from_residual.ensures.1 (err.cause clean) (err.told clean)

pub returns-in_err-count-clause-cause : goal.returns-in_err-count-clause-cause
returns-in_err-count-clause-cause g c clean =
    let old = state g.S.Store c.args.conn.now in
    let marked = state g.S.Store c.check_format.new.conn in
    let format = c.in_ok-check_format.ensures in
    let err = c.in_err-count.ensures in
    let early : HasCleanDisk marked = omega (arith, clean, err.looks.quiet.clean) in
    damage_of (IsNewer old) (λ told. IsTrue (state g.S.Store c.check_rows.new.conn).is_open × IsFirstWrong (resources marked) told) (IsSpoilt old)
    (λ told it.
    let was = (err.looks.keeps clean).was_open it.0 in
    let to_old = same_rows old marked format.checks.looks c.requires.laid early was in
    spoilt_by old told (was_laid old marked format.checks.looks c.requires.laid early was) (format.known early) (inl (subst (λ table. IsFirstWrong table told) to_old it.1)))
    c.from_residual-in_err-count.result c.in_err-count.field-0.0 c.from_residual-in_err-count.ensures.1 (err.cause clean)

pub returns-in_err-check_rest-clause-cause : goal.returns-in_err-check_rest-clause-cause
returns-in_err-check_rest-clause-cause g c clean =
    let old = state g.S.Store c.args.conn.now in
    let marked = state g.S.Store c.check_format.new.conn in
    let counted = state g.S.Store c.check_rows.new.conn in
    let format = c.in_ok-check_format.ensures in
    let rows = c.in_ok-count.ensures in
    let err = c.in_err-check_rest.ensures in
    let later : HasCleanDisk counted = omega (arith, clean, err.checks.looks.quiet.clean) in
    let early : HasCleanDisk marked = omega (arith, later, rows.looks.quiet.clean) in
    damage_of (IsNewer old) (λ told. IsTrue (state g.S.Store c.check_rest.new.conn).is_open × IsOutside (resources counted) c.in_ok-count.count told) (IsSpoilt old)
    (λ told it.
    let still = (err.checks.looks.keeps clean).was_open it.0 in
    let was = (rows.looks.keeps later).was_open still in
    let to_old = same_rows old marked format.checks.looks c.requires.laid early was in
    let to_marked = same_rows marked counted rows.looks (laid_on old marked format.checks.looks c.requires.laid) later still in
    spoilt_by old told (was_laid old marked format.checks.looks c.requires.laid early was) (format.known early)
    (inr (record {
      count = c.in_ok-count.count;
      before = subst (λ table. AreLawfulTo table c.in_ok-count.count) to_old (rows.lawful later);
      ends = subst (λ table. EndsAt table c.in_ok-count.count) to_old (rows.ends later);
      beside = subst (λ table. IsOutside table c.in_ok-count.count told) (to_marked ∙ to_old) it.1;
    })))
    c.from_residual-in_err-check_rest.result c.in_err-check_rest.field-0.0 c.from_residual-in_err-check_rest.ensures.1 (err.cause clean)

pub returns-in_err-check_format-clause-checks : goal.returns-in_err-check_format-clause-checks
returns-in_err-check_format-clause-checks g c =
    let failure = HasFailed (state g.S.Store c.args.conn.now) (state g.S.Store c.check_format.new.conn) in
    checks_err _ _ _ c.in_err-check_format.field-0.0 c.from_residual.result c.from_residual.ensures.1 (opens_of failure failure (λ it. it) c.from_residual.result c.in_err-check_format.field-0.0 c.from_residual.ensures.1) c.in_err-check_format.ensures.checks

pub returns-in_err-count-clause-checks : goal.returns-in_err-count-clause-checks
returns-in_err-count-clause-checks g c =
    let failure = HasFailed (state g.S.Store c.check_format.new.conn) (state g.S.Store c.check_rows.new.conn) in
    let result = c.from_residual-in_err-count.result in
    let same = c.from_residual-in_err-count.ensures.1 in
    let err = c.in_err-count.ensures in
    checks_since _ _ _ result opens_by c.in_ok-check_format.ensures.checks.looks
    (record { failed = λ clean. opens_of failure failure (λ it. it) result c.in_err-count.field-0.0 same (err.failed clean); is_open = search rules; looks = err.looks })

pub returns-in_err-check_rest-clause-checks : goal.returns-in_err-check_rest-clause-checks
returns-in_err-check_rest-clause-checks g c =
    let failure = HasFailed (state g.S.Store c.check_rows.new.conn) (state g.S.Store c.check_rest.new.conn) in
    let result = c.from_residual-in_err-check_rest.result in
    let same = c.from_residual-in_err-check_rest.ensures.1 in
    let to_counted = looks_then _ _ _ c.in_ok-check_format.ensures.checks.looks c.in_ok-count.ensures.looks in
    checks_since _ _ _ result opens_by to_counted
    (checks_err _ _ _ c.in_err-check_rest.field-0.0 result same (opens_of failure failure (λ it. it) result c.in_err-check_rest.field-0.0 same) c.in_err-check_rest.ensures.checks)
