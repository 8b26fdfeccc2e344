use Rattle.std.proofs.Common.{◌∙◌, Vec, Global, rules}
use Rattle.journal_core.specs.declared.entries.Entry.{Entry}
use Rattle.scim_key.specs.declared.stores.StoreFault.TheVariants.{Memory}
use Rattle.journal_store.proofs.Calls.{answered_so, fails_so, reads_on}
use Rattle.sql_tables.specs.Faults.{HasFailed}
use Rattle.sql_tables.proofs.Failing.{failed_since}
use Rattle.journal_store.proofs.Changing.{loaded}
use Rattle.std.proofs.Common.{◌⊎◌, IsTrue, subst, sym, arith, inl, inr}
use Rattle.sqlite.specs.Held.{state}
use Rattle.sqlite.specs.State.{HasCleanDisk}
use Rattle.scim_key.specs.declared.records.Kind.{Kind}
use Rattle.scim_key.specs.declared.records.Kind.TheVariants.{User, Group}
use Rattle.journal_store.specs.Connections.{ListsNone}
use Rattle.journal_store.specs.Kept.{IsFaithful}
use Rattle.journal_store.proofs.Failing.{calls_of}
use Rattle.journal_store.proofs.journal.SqlJournalJournal.load.Goals as goal

pub returns-in_err-groups-clause-reads : goal.returns-in_err-groups-clause-reads
returns-in_err-groups-clause-reads g c =
    let both = reads_on g.S.Store c.in_ok-all.ensures.reads c.in_err-groups.ensures.reads in
    search rules

pub returns-in_err-append-clause-reads : goal.returns-in_err-append-clause-reads
returns-in_err-append-clause-reads g c =
    let both = reads_on g.S.Store c.in_ok-all.ensures.reads c.in_ok-groups.ensures.reads in
    let failed = fails_so g.S.Store (Vec Entry Global) Memory both both.counted in
    search rules

pub returns-clause-ok : goal.returns-clause-ok
returns-clause-ok g c faithful =
    let one = c.in_ok-all.ensures in
    let two = c.in_ok-groups.ensures in
    let mid = two.reads.was faithful in
    loaded g.S.Store c.args.self.now c.list.new.self c.list-2.new.self c.in_ok-all.all.items c.in_ok-groups.groups.items _ c.in_ok-append.ensures.items faithful (two.reads.same faithful ∙ one.reads.same mid) (two.tables faithful) (one.all mid) (two.all faithful)

pub returns-clause-reads : goal.returns-clause-reads
returns-clause-reads g c = answered_so g.S.Store _ (reads_on g.S.Store c.in_ok-all.ensures.reads c.in_ok-groups.ensures.reads)

pub returns-in_err-all-clause-failed : goal.returns-in_err-all-clause-failed
returns-in_err-all-clause-failed g c usable clean =
    let old = state g.S.Store c.args.self.now.conn in
    let new = state g.S.Store c.list.new.self.conn in
    let err = c.in_err-all.ensures in
    calls_of (HasFailed old new ⊎ (IsFaithful g.S.Store c.list.new.self × ListsNone User new.now.trees)) (HasFailed old new ⊎ ((kind : Kind) × ListsNone kind old.now.trees))
    (λ it. elim it [ inl fails ↦ inl fails | inr damage ↦ inr (User, subst (ListsNone User) (err.tables damage.0) damage.1) ])
    c.from_residual.result c.in_err-all.field-0.0 c.from_residual.ensures.1 (err.failed usable clean)

pub returns-in_err-groups-clause-failed : goal.returns-in_err-groups-clause-failed
returns-in_err-groups-clause-failed g c usable clean =
    let old = state g.S.Store c.args.self.now.conn in
    let mid = state g.S.Store c.list.new.self.conn in
    let new = state g.S.Store c.list-2.new.self.conn in
    let one = c.in_ok-all.ensures in
    let two = c.in_err-groups.ensures in
    let mid_clean : HasCleanDisk mid = omega (arith, clean, two.quiet.clean) in
    calls_of (HasFailed mid new ⊎ (IsFaithful g.S.Store c.list-2.new.self × ListsNone Group new.now.trees)) (HasFailed old new ⊎ ((kind : Kind) × ListsNone kind old.now.trees))
    (λ it. elim it [
      | inl fails ↦ inl (failed_since old mid new one.quiet mid_clean two.quiet.counts fails)
      | inr damage ↦ inr (Group, subst (ListsNone Group) (one.tables (two.reads.was damage.0)) (subst (ListsNone Group) (two.tables damage.0) damage.1))
    ])
    c.from_residual-in_err-groups.result c.in_err-groups.field-0.0 c.from_residual-in_err-groups.ensures.1 (two.failed (subst IsTrue (sym one.usable) usable) clean)
