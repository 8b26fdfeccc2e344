use Rattle.std.proofs.Common.{◌⊎◌, true, refl, subst, sym, ◌∙◌}
use Rattle.sqlite.specs.Held.{state}
use Rattle.journal_store.specs.Calls.{OpensAgain}
use Rattle.journal_store.specs.Kept.{Kept}
use Rattle.journal_store.specs.Opening.{IsNewer, IsNotLaid, IsSpoilt, IsUnfit}
use Rattle.journal_store.proofs.Failing.{reopening_fails}
use Rattle.sql_tables.specs.Faults.{FailsFor as CallFailsFor, HasFailed}
use Rattle.journal_store.proofs.Reading.{answered}
use Rattle.journal_store.proofs.Reopening.{reopened, store_on, whole_of}
use Rattle.journal_store.proofs.journal.SqlJournalReopenJournal.reopen.Goals as goal

pub invariant_of-self : goal.invariant_of-self
invariant_of-self g c clean still usable =
    let new : Kept g.row.S.Denot = record { conn = c.check_tables.new.conn; is_usable = true; faults = c.self.inside.faults; writes = c.self.inside.writes } in
    let it = c.in-Ok.ensures.store clean in
    whole_of g.S.Store new it.0 (store_on (state g.S.Store c.self.inside.conn) (state g.S.Store c.check_tables.new.conn) it.0 c.in-Ok.ensures.checks.looks it.1 clean still)

pub returns-in-Ok-clause-reopens : goal.returns-in-Ok-clause-reopens
returns-in-Ok-clause-reopens g c =
    let old : Kept g.row.S.Denot = record { conn = c.self.inside.conn; is_usable = c.self.inside.is_usable; faults = c.self.inside.faults; writes = c.self.inside.writes } in
    let new : Kept g.row.S.Denot = record { conn = c.check_tables.new.conn; is_usable = true; faults = c.self.inside.faults; writes = c.self.inside.writes } in
    subst (λ (k : Kept g.row.S.Denot). OpensAgain g.S.Store k new answered) c.self.view_is
    (reopened g.S.Store old new c.in-Ok.ensures.checks.looks g.met.S.Store.stays refl c.in-Ok.ensures.store c.in-Ok.ensures.checks.is_open refl refl)

pub returns-in-Err-clause-failed : goal.returns-in-Err-clause-failed
returns-in-Err-clause-failed g c clean =
    let old = state g.S.Store c.self.inside.conn in
    let new = state g.S.Store c.check_tables.new.conn in
    subst (λ (k : Kept g.row.S.Denot). CallFailsFor (HasFailed (state g.S.Store k.conn) new ⊎ IsUnfit (state g.S.Store k.conn)) c.counted.result) c.self.view_is
    (subst (CallFailsFor (HasFailed old new ⊎ IsUnfit old)) (sym (c.counted.ensures.same ∙ c.journal_fault.ensures))
    (reopening_fails (HasFailed old new) (IsNewer old) (IsNotLaid old ⊎ IsSpoilt old) c.in-Err.fault (c.in-Err.ensures.checks.failed clean) (c.in-Err.ensures.cause clean)))
