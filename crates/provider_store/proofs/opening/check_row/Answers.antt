use Rattle.std.proofs.Common.{Ok, true, ◌≡◌, List, [], ◌∷◌, IsTrue, filter, refl, ◌∙◌, arith, subst}
use Rattle.sqlite_value.specs.Order.{Row}
use Rattle.sqlite.specs.Held.{state}
use Rattle.sqlite.specs.State.{HasCleanDisk}
use Rattle.scim_resource.specs.Contents.{content_name}
use Rattle.provider_store.specs.Connections.{FindsNumber, resources}
use Rattle.provider_store.specs.Lawful.{has_name, NoneNamed, IsWrong}
use Rattle.provider_store.proofs.Finding.{has_named}
use Rattle.provider_store.proofs.Refusing.{numbered_there, lawful_alone, told_number, wrong_shared, wrong_damaged}
use Rattle.provider_store.proofs.Checking.{damage_of, opens_by, same_rows}
use Rattle.provider_store.proofs.Checking.{fails_of, opens_of}
use Rattle.sql_tables.specs.Faults.{HasFailed}
use Rattle.sql_tables.proofs.Checking.{checks_err, checks_since}
use Rattle.provider_store.proofs.opening.check_row.Goals as goal

pub returns-in_ok-check_name-in-There-clause-lawful : goal.returns-in_ok-check_name-in-There-clause-lawful
returns-in_ok-check_name-in-There-clause-lawful g c clean _ =
    let named = c.in_ok-check_name-in-There.ensures in
    let mid_clean : HasCleanDisk (state g.S.Store c.find_numbered.new.conn) = omega (arith, clean, named.checks.looks.quiet.clean) in
    let found = subst (FindsNumber (resources (state g.S.Store c.args.conn.now)) c.args.number) c.in-There.is (c.in_ok-row.ensures.found mid_clean) in
    let looks = c.in_ok-row.ensures.checks.looks in
    let still = (named.checks.looks.keeps clean).was_open (named.checks.is_open clean) in
    let rows = same_rows (state g.S.Store c.args.conn.now) (state g.S.Store c.find_numbered.new.conn) looks c.requires.laid mid_clean still in
    let alone = subst (λ (table : List Row). (r : Row) × (filter (has_name (content_name c.in-There.row.content)) table ≡ r ∷ [])) rows (named.named clean) in
    let table = resources (state g.S.Store c.args.conn.now) in
    let there = has_named table (content_name c.in-There.row.content) found.0 c.in-There.row (record { there = numbered_there table c.args.number found.0 found.1; shows = found.2; named = refl }) in
    lawful_alone table c.args.number found.0 c.in-There.row found.1 found.2 alone.0 there alone.1

pub returns-in_err-check_name-in-There-clause-cause : goal.returns-in_err-check_name-in-There-clause-cause
returns-in_err-check_name-in-There-clause-cause g c clean =
    let err = c.in_err-check_name-in-There.ensures in
    let mid_clean : HasCleanDisk (state g.S.Store c.find_numbered.new.conn) = omega (arith, clean, err.checks.looks.quiet.clean) in
    let found = subst (FindsNumber (resources (state g.S.Store c.args.conn.now)) c.args.number) c.in-There.is (c.in_ok-row.ensures.found mid_clean) in
    let looks = c.in_ok-row.ensures.checks.looks in
    damage_of ⊥ (λ told. IsTrue (state g.S.Store c.check_name.new.conn).is_open × (told ≡ c.in-There.row.number) × NoneNamed (resources (state g.S.Store c.find_numbered.new.conn)) (content_name c.in-There.row.content))
    (λ told. IsTrue (state g.S.Store c.check_name.new.conn).is_open × (told ≡ c.args.number) × IsWrong (resources (state g.S.Store c.args.conn.now)) c.args.number)
    (λ told it.
    let still = (err.checks.looks.keeps clean).was_open it.0 in
    let rows = same_rows (state g.S.Store c.args.conn.now) (state g.S.Store c.find_numbered.new.conn) looks c.requires.laid mid_clean still in
    let none = subst (λ (table : List Row). NoneNamed table (content_name c.in-There.row.content)) rows it.2 in
    let table = resources (state g.S.Store c.args.conn.now) in
    (it.0, it.1 ∙ told_number table c.args.number found.0 c.in-There.row found.1 found.2, wrong_shared table c.args.number found.0 c.in-There.row found.1 found.2 none))
    c.from_residual-in_err-check_name-in-There.result c.in_err-check_name-in-There.field-0.0 c.from_residual-in_err-check_name-in-There.ensures.1 (err.cause clean)

pub returns-in-Nothing-clause-absent : goal.returns-in-Nothing-clause-absent
returns-in-Nothing-clause-absent g c clean _ = subst (FindsNumber (resources (state g.S.Store c.args.conn.now)) c.args.number) c.in-Nothing.is (c.in_ok-row.ensures.found clean)

pub returns-in-Damaged-clause-cause : goal.returns-in-Damaged-clause-cause
returns-in-Damaged-clause-cause g c clean =
    let found = subst (FindsNumber (resources (state g.S.Store c.args.conn.now)) c.args.number) c.in-Damaged.is (c.in_ok-row.ensures.found clean) in
    (c.in_ok-row.ensures.checks.is_open clean, c.from.ensures, wrong_damaged (resources (state g.S.Store c.args.conn.now)) c.args.number found)

pub returns-in_err-row-clause-checks : goal.returns-in_err-row-clause-checks
returns-in_err-row-clause-checks g c =
    let failure = HasFailed (state g.S.Store c.args.conn.now) (state g.S.Store c.find_numbered.new.conn) in
    checks_err _ _ _ c.in_err-row.field-0.0 c.from_residual.result c.from_residual.ensures.1 (fails_of failure c.from_residual.result c.in_err-row.field-0.0 c.from_residual.ensures.1) c.in_err-row.ensures.checks

pub returns-in_ok-check_name-in-There-clause-checks : goal.returns-in_ok-check_name-in-There-clause-checks
returns-in_ok-check_name-in-There-clause-checks g c =
    let named = c.in_ok-check_name-in-There.ensures.checks in
    checks_since _ _ _ (Ok true) opens_by c.in_ok-row.ensures.checks.looks (record { failed = λ _. tt; is_open = named.is_open; looks = named.looks })

pub returns-in_err-check_name-in-There-clause-checks : goal.returns-in_err-check_name-in-There-clause-checks
returns-in_err-check_name-in-There-clause-checks g c =
    let failure = HasFailed (state g.S.Store c.find_numbered.new.conn) (state g.S.Store c.check_name.new.conn) in
    let fault = c.in_err-check_name-in-There.field-0.0 in
    let result = c.from_residual-in_err-check_name-in-There.result in
    let same = c.from_residual-in_err-check_name-in-There.ensures.1 in
    checks_since _ _ _ result opens_by c.in_ok-row.ensures.checks.looks (checks_err _ _ _ fault result same (opens_of failure failure (λ it. it) result fault same) c.in_err-check_name-in-There.ensures.checks)
