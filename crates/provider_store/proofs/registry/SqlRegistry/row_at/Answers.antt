use Rattle.std.proofs.Common.{◌⊎◌, IfErr, subst}
use Rattle.sqlite.specs.Held.{state}
use Rattle.provider_store.specs.Connections.{FindsNumber, resources}
use Rattle.provider_store.specs.Kept.{Kept}
use Rattle.provider_store.specs.declared.tables.Found.TheVariants.{Damaged}
use Rattle.provider_store.proofs.Failing.{look_up_failed}
use Rattle.sql_tables.specs.Faults.{FailsFor, HasFailed}
use Rattle.sql_tables.proofs.Results.{if_err}
use Rattle.provider_store.proofs.registry.SqlRegistry.row_at.Goals as goal

pub returns-clause-failed : goal.returns-clause-failed
returns-clause-failed g c usable clean =
    let call = c.find_numbered-found.ensures in
    let old = state g.S.Store c.self.inside.conn in
    let new = state g.S.Store c.find_numbered-found.new.conn in
    subst (λ (k : Kept g.row.S.Denot). IfErr c.one_of.result (FailsFor (HasFailed (state g.S.Store k.conn) new ⊎ FindsNumber (resources (state g.S.Store k.conn)) c.args.number Damaged))) c.self.view_is
    (if_err c.one_of.result (λ fault is. look_up_failed (HasFailed old new) (FindsNumber (resources old) c.args.number) c.find_numbered-found.result fault is (call.found clean) (call.checks.failed clean)) c.one_of.ensures.fault)
