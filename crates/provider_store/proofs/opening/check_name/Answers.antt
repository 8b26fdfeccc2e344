use Rattle.std.proofs.Common.{◌≡◌, [], ◌∷◌, filter, ◌∙◌, ap, subst}
use Rattle.sqlite.specs.Held.{state}
use Rattle.scim_resource.specs.Contents.{content_name}
use Rattle.sqlite_value.specs.Order.{Row}
use Rattle.provider_store.specs.Lawful.{has_name, NoneNamed}
use Rattle.provider_store.proofs.Refusing.{none_by}
use Rattle.provider_store.specs.Connections.{FindsName, resources}
use Rattle.provider_store.specs.Opening.{IsAlone}
use Rattle.provider_store.proofs.Checking.{alone_from}
use Rattle.provider_store.proofs.Checking.{fails_of}
use Rattle.sql_tables.specs.Faults.{HasFailed}
use Rattle.sql_tables.proofs.Checking.{checks_err}
use Rattle.provider_store.proofs.opening.check_name.Goals as goal

pub returns-in-There-clause-alone : goal.returns-in-There-clause-alone
returns-in-There-clause-alone g c clean =
    let found = subst (FindsName (resources (state g.S.Store c.args.conn.now)) c.in_ok-name.name) c.in-There.is (c.in_ok-_row.ensures.found clean) in
    subst (IsAlone (resources (state g.S.Store c.args.conn.now))) (c.in_ok-name.ensures ∙ ap content_name c.content.ensures) (alone_from (resources (state g.S.Store c.args.conn.now)) c.in_ok-name.name c.in-There._row found)

pub returns-in-There-clause-named : goal.returns-in-There-clause-named
returns-in-There-clause-named g c clean =
    let found = subst (FindsName (resources (state g.S.Store c.args.conn.now)) c.in_ok-name.name) c.in-There.is (c.in_ok-_row.ensures.found clean) in
    subst (λ name. (r : Row) × (filter (has_name name) (resources (state g.S.Store c.args.conn.now)) ≡ r ∷ [])) (c.in_ok-name.ensures ∙ ap content_name c.content.ensures) (found.0, found.1)

pub returns-clause-cause : goal.returns-clause-cause
returns-clause-cause g c clean =
    let table = resources (state g.S.Store c.args.conn.now) in
    let none = subst (NoneNamed table) (c.in_ok-name.ensures ∙ ap content_name c.content.ensures) (none_by table c.in_ok-name.name c.in_ok-_row.field-0 c.in-Nothing.is (c.in_ok-_row.ensures.found clean)) in
    (c.in_ok-_row.ensures.checks.is_open clean, c.from.ensures ∙ c.number.ensures.value, none)

pub returns-in_err-_row-clause-checks : goal.returns-in_err-_row-clause-checks
returns-in_err-_row-clause-checks g c =
    let failure = HasFailed (state g.S.Store c.args.conn.now) (state g.S.Store c.find_named.new.conn) in
    checks_err _ _ _ c.in_err-_row.field-0.0 c.from_residual-in_err-_row.result c.from_residual-in_err-_row.ensures.1 (fails_of failure c.from_residual-in_err-_row.result c.in_err-_row.field-0.0 c.from_residual-in_err-_row.ensures.1) c.in_err-_row.ensures.checks
