use Rattle.std.proofs.Common.{◌≡◌, ◌⊎◌, IfErr, IfOk, subst, arith}
use Rattle.sqlite.specs.Held.{state}
use Rattle.sqlite.specs.State.{HasCleanDisk}
use Rattle.provider_core.specs.Rows.{row_named}
use Rattle.provider_store.proofs.Reading.{named_answer}
use Rattle.provider_store.specs.Connections.{FindsName, resources}
use Rattle.provider_store.specs.Kept.{Kept, kept_rows}
use Rattle.provider_store.specs.declared.tables.Found.TheVariants.{Damaged}
use Rattle.provider_store.proofs.Failing.{look_up_failed}
use Rattle.sql_tables.specs.Faults.{FailsFor, HasFailed}
use Rattle.sql_tables.proofs.Results.{if_err}
use Rattle.provider_store.proofs.registry.SqlRegistry.row_of.Goals as goal

pub returns-clause-ok : goal.returns-clause-ok
returns-clause-ok g c faithful =
    let call = c.find_named-found.ensures in
    let early : HasCleanDisk (state g.S.Store c.self.inside.conn) = omega (arith, faithful.clean, call.checks.looks.quiet.clean) in
    let whole = c.self.invariant early ((call.checks.looks.keeps faithful.clean).was_open faithful.is_open) faithful.usable in
    subst (λ k. IfOk c.one_of.result (λ row. row ≡ row_named c.args.name.now (kept_rows g.S.Store k))) c.self.view_is
    (named_answer g.S.Store _ whole c.args.name.now c.one_of.result c.find_named-found.result c.one_of.ensures.found (call.found faithful.clean))

pub returns-clause-failed : goal.returns-clause-failed
returns-clause-failed g c usable clean =
    let call = c.find_named-found.ensures in
    let old = state g.S.Store c.self.inside.conn in
    let new = state g.S.Store c.find_named-found.new.conn in
    subst (λ (k : Kept g.row.S.Denot). IfErr c.one_of.result (FailsFor (HasFailed (state g.S.Store k.conn) new ⊎ FindsName (resources (state g.S.Store k.conn)) c.args.name.now Damaged))) c.self.view_is
    (if_err c.one_of.result (λ fault is. look_up_failed (HasFailed old new) (FindsName (resources old) c.args.name.now) c.find_named-found.result fault is (call.found clean) (call.checks.failed clean)) c.one_of.ensures.fault)
