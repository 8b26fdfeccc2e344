use Rattle.std.proofs.Common.{◌≡◌, ◌⊎◌, true, refl, subst, sym, ◌∙◌}
use Rattle.sqlite.specs.Held.{state}
use Rattle.provider_store.specs.Calls.{OpensAgain}
use Rattle.provider_store.specs.Kept.{Kept}
use Rattle.provider_store.specs.Opening.{IsNewer, IsNotLaid, IsSpoilt, IsUnfit}
use Rattle.provider_store.proofs.Failing.{reopening_fails}
use Rattle.sql_tables.specs.Faults.{FailsFor, HasFailed}
use Rattle.provider_store.specs.Lookups.{answered}
use Rattle.provider_store.proofs.Reopening.{reopened, store_on, whole_of}
use Rattle.provider_store.proofs.registry.SqlRegistryReopen.reopen.Goals as goal

pub invariant_of-self : goal.invariant_of-self
invariant_of-self g c clean still usable =
    let new : Kept g.row.S.Denot = record { conn = c.check_tables.new.conn; is_usable = true; count = c.in-Ok.count; faults = c.self.inside.faults; writes = c.self.inside.writes } in
    let it = c.in-Ok.ensures.store clean in
    whole_of g.S.Store new it.0 (store_on (state g.S.Store c.self.inside.conn) (state g.S.Store c.check_tables.new.conn) it.0 c.in-Ok.ensures.checks.looks it.1 clean still) it.2

pub returns-in-Ok-clause-reopens : goal.returns-in-Ok-clause-reopens
returns-in-Ok-clause-reopens g c =
    let old : Kept g.row.S.Denot = record { conn = c.self.inside.conn; is_usable = c.self.inside.is_usable; count = c.self.inside.count; faults = c.self.inside.faults; writes = c.self.inside.writes } in
    let new : Kept g.row.S.Denot = record { conn = c.check_tables.new.conn; is_usable = true; count = c.in-Ok.count; faults = c.self.inside.faults; writes = c.self.inside.writes } in
    subst (λ (k : Kept g.row.S.Denot). OpensAgain g.S.Store k new answered) c.self.view_is
    (reopened g.S.Store old new c.in-Ok.ensures.checks.looks g.met.S.Store.stays refl c.in-Ok.ensures.store c.in-Ok.ensures.checks.is_open refl refl)

pub returns-in-Err-clause-failed : goal.returns-in-Err-clause-failed
returns-in-Err-clause-failed g c clean =
    let old = state g.S.Store c.self.inside.conn in
    let new = state g.S.Store c.check_tables.new.conn in
    subst (λ (k : Kept g.row.S.Denot). FailsFor (HasFailed (state g.S.Store k.conn) new ⊎ IsUnfit (state g.S.Store k.conn)) c.counted.result) c.self.view_is
    (subst (FailsFor (HasFailed old new ⊎ IsUnfit old)) (sym (c.counted.ensures.same ∙ c.registry_fault.ensures))
    (reopening_fails (HasFailed old new) (IsNewer old) (λ number. ((number ≡ 0) × IsNotLaid old) ⊎ IsSpoilt old number) c.in-Err.fault (c.in-Err.ensures.checks.failed clean) (c.in-Err.ensures.cause clean)))
