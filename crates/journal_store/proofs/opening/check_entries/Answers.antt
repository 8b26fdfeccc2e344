use Rattle.std.proofs.Common.{IsTrue, List, subst, sym}
use Rattle.sqlite.specs.Effect.{Database}
use Rattle.sqlite.specs.Held.{state}
use Rattle.scim_key.specs.declared.records.Kind.TheVariants.{User, Group}
use Rattle.journal_core.specs.declared.entries.Entry.{Entry}
use Rattle.journal_store.specs.Connections.{ListsAllBy, ListsNoneBy, Shows}
use Rattle.sql_tables.proofs.Results.{if_err, on_ok}
use Rattle.sql_tables.specs.Faults.{HasFailed}
use Rattle.journal_store.specs.Opening.{AreInOrder, AreLawful, HoldsEntriesBy, keys_of}
use Rattle.journal_store.proofs.Checking.{damage_on, entries_both, fails_of, lists_refused, mid_same, opens_by, told_of}
use Rattle.journal_store.proofs.Generic.{format_of}
use Rattle.sql_tables.proofs.Checking.{checks_by, checks_err, checks_since}
use Rattle.journal_store.proofs.opening.check_entries.Goals as goal

pub returns-clause-holds : goal.returns-clause-holds
returns-clause-holds g c clean =
    let old = state g.S.Store c.args.conn.now in
    let mid = state g.S.Store c.list_entries.new.conn in
    let new = state g.S.Store c.list_entries-2.new.conn in
    let first = c.in_ok-users.ensures in
    let second = c.in_ok-groups.ensures in
    let to_mid = first.checks.looks in
    let to_new = second.checks.looks in
    let users = c.in_ok-users.users.items in
    let groups = c.in_ok-groups.groups.items in
    let lawful = on_ok {Q = AreLawful users groups} c.check_lists.result
    (λ (it : AreLawful c.as_slice.result.now c.as_slice-2.result.now). subst (λ l. AreLawful l groups) c.as_slice.ensures.value (subst (AreLawful c.as_slice.result.now) c.as_slice-2.ensures.value it)) c.check_lists.ensures.lawful in
    entries_both old mid new to_mid c.requires.laid to_new clean (format_of g.F.Layout g.F.Format) c.check_lists.result users groups first.all (second.all clean) (second.checks.is_open clean) lawful

pub returns-in_err-users-clause-cause : goal.returns-in_err-users-clause-cause
returns-in_err-users-clause-cause g c clean =
    let old = state g.S.Store c.args.conn.now in
    let still = IsTrue (state g.S.Store c.list_entries.new.conn).is_open in
    told_of ⊥ (still × ListsNoneBy (Shows User) (g.F.Format.columns User) (old.now.trees (g.F.Format.tree User))) (still × (HoldsEntriesBy (format_of g.F.Layout g.F.Format) old.now.trees → ⊥)) (λ it. (it.0, λ holds. it.1 holds.users holds.all_users))
    c.from_residual.result c.in_err-users.field-0.0 c.from_residual.ensures.1 (c.in_err-users.ensures.none clean)

pub returns-in_err-groups-clause-cause : goal.returns-in_err-groups-clause-cause
returns-in_err-groups-clause-cause g c clean =
    let old = state g.S.Store c.args.conn.now in
    let mid = state g.S.Store c.list_entries.new.conn in
    let new = state g.S.Store c.list_entries-2.new.conn in
    let first = c.in_ok-users.ensures in
    let second = c.in_err-groups.ensures in
    let to_mid = first.checks.looks in
    let to_new = second.checks.looks in
    let same = mid_same old mid new to_mid c.requires.laid to_new clean in
    told_of ⊥ (IsTrue new.is_open × ListsNoneBy (Shows Group) (g.F.Format.columns Group) (mid.now.trees (g.F.Format.tree Group))) (IsTrue new.is_open × (HoldsEntriesBy (format_of g.F.Layout g.F.Format) old.now.trees → ⊥))
    (λ it. (it.0, λ holds. it.1 holds.groups (subst (λ (d : Database). ListsAllBy (Shows Group) (g.F.Format.columns Group) (d.trees (g.F.Format.tree Group)) holds.groups) (sym (same it.0)) holds.all_groups)))
    c.from_residual-in_err-groups.result c.in_err-groups.field-0.0 c.from_residual-in_err-groups.ensures.1 (second.none clean)

pub returns-clause-cause : goal.returns-clause-cause
returns-clause-cause g c clean =
    let old = state g.S.Store c.args.conn.now in
    let mid = state g.S.Store c.list_entries.new.conn in
    let new = state g.S.Store c.list_entries-2.new.conn in
    let first = c.in_ok-users.ensures in
    let second = c.in_ok-groups.ensures in
    let to_mid = first.checks.looks in
    let to_new = second.checks.looks in
    let users = c.in_ok-users.users.items in
    let groups = c.in_ok-groups.groups.items in
    let still = second.checks.is_open clean in
    damage_on ⊥ (AreInOrder (keys_of c.as_slice.result.now) → AreLawful c.as_slice.result.now c.as_slice-2.result.now → ⊥) (IsTrue new.is_open × (HoldsEntriesBy (format_of g.F.Layout g.F.Format) old.now.trees → ⊥))
    (λ unlawful. (
      still,
      lists_refused old mid new to_mid c.requires.laid to_new clean (format_of g.F.Layout g.F.Format) users groups first.all (second.all clean) still
          (subst (λ (l : List Entry). AreInOrder (keys_of l) → AreLawful l groups → ⊥) c.as_slice.ensures.value (subst (λ (l : List Entry). AreInOrder (keys_of c.as_slice.result.now) → AreLawful c.as_slice.result.now l → ⊥) c.as_slice-2.ensures.value unlawful)),
    ))
    c.check_lists.result c.check_lists.ensures.cause

pub returns-in_err-users-clause-checks : goal.returns-in_err-users-clause-checks
returns-in_err-users-clause-checks g c =
    let failure = HasFailed (state g.S.Store c.args.conn.now) (state g.S.Store c.list_entries.new.conn) in
    checks_err _ _ _ c.in_err-users.field-0.0 c.from_residual.result c.from_residual.ensures.1 (fails_of failure failure (λ it. it) c.from_residual.result c.in_err-users.field-0.0 c.from_residual.ensures.1) c.in_err-users.ensures.checks

pub returns-in_err-groups-clause-checks : goal.returns-in_err-groups-clause-checks
returns-in_err-groups-clause-checks g c =
    let failure = HasFailed (state g.S.Store c.list_entries.new.conn) (state g.S.Store c.list_entries-2.new.conn) in
    checks_since _ _ _ c.from_residual-in_err-groups.result opens_by c.in_ok-users.ensures.checks.looks
    (checks_err _ _ _ c.in_err-groups.field-0.0 c.from_residual-in_err-groups.result c.from_residual-in_err-groups.ensures.1 (fails_of failure failure (λ it. it) c.from_residual-in_err-groups.result c.in_err-groups.field-0.0 c.from_residual-in_err-groups.ensures.1) c.in_err-groups.ensures.checks)

pub returns-clause-checks : goal.returns-clause-checks
returns-clause-checks g c =
    let failure = HasFailed (state g.S.Store c.list_entries.new.conn) (state g.S.Store c.list_entries-2.new.conn) in
    checks_since _ _ _ c.check_lists.result opens_by c.in_ok-users.ensures.checks.looks
    (checks_by _ _ c.in_ok-groups.groups c.check_lists.result (if_err c.check_lists.result (opens_by ⊥ failure (λ none. absurd none)) c.check_lists.ensures.failed) c.in_ok-groups.ensures.checks)
