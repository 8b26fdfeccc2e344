-- Why a query fails although there is memory.
use Rattle.std.proofs.Common.{◌≡◌, ◌≤◌, ◌^◌, ◌-◌, ◌+◌, min, ℕ, true, false, List, length, append-nil, None, Result, Ok, Err, IfErr, IsTrue, IsSome, sym, ◌∙◌, subst, inl, inr, arith}
use Rattle.std.proofs.lemmas.Bool.{cases_Bool, cases_lt}
use Rattle.sqlite_value.specs.Order.{Row}
use Rattle.sqlite_trees.specs.Tree.{Trees}
use Rattle.sqlite_trees.specs.declared.error.StoreError.{StoreError}
use Rattle.sqlite_trees.specs.declared.error.StoreError.TheVariants.{OutOfMemory, Io, Corrupt, Full, Broken, Unstorable}
use Rattle.sqlite_schema.specs.declared.schema.Schema.{Schema}
use Rattle.sqlite_resolve.specs.declared.compiled.Compiled.{Compiled}
use Rattle.sqlite.specs.declared.error.Error.{Error}
use Rattle.sqlite.specs.Effect.{Database, RefusesToRead}
use Rattle.sqlite.specs.Given.{IsPlain}
use Rattle.sqlite.specs.Listing.{understood, IsSourceOf}
use Rattle.sqlite.specs.State.{State, HasCause, Survives, HasCleanDisk, FailsToQuery, FailsToShow, IsNotRun, store_error}
use Rattle.scim_key.specs.Stores.{HasRisen}
use Rattle.sql_tables.specs.Faults.{FailsFor, HasFailed, statement_fault}
use Rattle.sql_tables.specs.Layouts.{IsLaid}
use Rattle.sql_tables.specs.Statements.{IsGiven, IsQuery}
use Rattle.scim_key.specs.declared.stores.StoreFault.{StoreFault}
use Rattle.scim_key.specs.declared.stores.StoreFault.TheVariants as store
use Rattle.sql_tables.proofs.Asking.{query_at}

pub fails_by : (P Q : Type 0) → (P → Q) → (fault : StoreFault) → FailsFor P fault → FailsFor Q fault
fails_by P Q h store.Store it = h it
fails_by P Q h store.Memory it = tt

pub fails_so : (P : Type 0) → P → (fault : StoreFault) → FailsFor P fault
fails_so P it store.Store = it
fails_so P it store.Memory = tt

pub more : (old mid new : ℕ) → min (old + 1) (2 ^ 64 - 1) ≤ mid → mid ≤ new → HasRisen old new
more old mid new up later = elim (cases_lt old new) [ inl risen ↦ inl risen | inr rest ↦ inr (omega (arith, up, later, rest)) ]

pub risen_before : (old mid new : ℕ) → old ≤ mid → HasRisen mid new → HasRisen old new
risen_before old mid new up (inl risen) = inl (omega (arith, up, risen))
risen_before old mid new up (inr full) = inr full

module _ (old new : State) (e : Error) where
  blamed : (cause : StoreError) → e ≡ store_error cause → HasCause old new ⊥ cause → FailsFor (HasFailed old new) (statement_fault e)
  blamed OutOfMemory is it = subst (λ x. FailsFor (HasFailed old new) (statement_fault x)) (sym is) tt
  blamed Io is it = fails_so (HasFailed old new) (inr (inl (more old.faults new.faults new.faults it (omega arith)))) (statement_fault e)
  blamed Corrupt is it = fails_so (HasFailed old new) (inr (inl (more old.faults new.faults new.faults it (omega arith)))) (statement_fault e)
  blamed Full is it = fails_so (HasFailed old new) (inr (inl (more old.faults new.faults new.faults it (omega arith)))) (statement_fault e)
  blamed Broken is it = fails_so (HasFailed old new) (inl it) (statement_fault e)
  blamed Unstorable is it = absurd it

  module _ {Form : Type 0} {layout : Form → Schema} (sql : List ℕ) (params : Row) (query_text : IsQuery layout sql) (given : IsGiven layout sql params) (laid : IsLaid layout old) where
    known : (c : Compiled) × (understood old.now.schema sql ≡ Ok c) × (length sql ≤ c.tail) × (length params ≡ length c.names)
    known = subst (λ (schema : Schema). (c : Compiled) × (understood schema sql ≡ Ok c) × (length sql ≤ c.tail) × (length params ≡ length c.names)) (sym laid.schema) (given.0 laid.form)

    same_text : (c : Compiled) → understood old.now.schema sql ≡ Ok c → c ≡ known.0
    same_text c is = let both : Ok c ≡ Ok known.0 = sym is ∙ known.1 in cc

    not_run : IsNotRun old new sql params e → FailsFor (HasFailed old new) (statement_fault e)
    unfolding IsNotRun
    not_run (inl (inl (fault, is, is_error), still)) = absurd (let clash : Err fault ≡ Ok known.0 = sym is ∙ known.1 in cc)
    not_run (inl (inr (c, is, inl (short, is_error)), still)) = absurd (short (subst (λ (k : Compiled). length sql ≤ k.tail) (sym (same_text c is)) known.2))
    not_run (inl (inr (c, is, inr (inl (other, is_error))), still)) = absurd (other (subst (λ (k : Compiled). length params ≡ length k.names) (sym (same_text c is)) known.3))
    not_run (inl (inr (c, is, inr (inr (clock, is_error))), still)) = absurd (clock (subst IsPlain is (query_at old sql query_text laid).0).1)
    not_run (inr failed) = blamed failed.0 failed.1 failed.2

    pub query_failed : FailsToQuery sql params old new e → FailsFor (HasFailed old new) (statement_fault e)
    unfolding FailsToQuery
    query_failed (inl refused) = not_run refused
    query_failed (inr h) =
        let at = query_at old sql query_text laid in
        let bare = subst IsPlain h.1.is at.0 in
        let shows : FailsToShow old new sql h.0 params e None = rw (bare.0, bare.1, append-nil params) at h.2 in
        let db : shows.0 ≡ old.now = subst (λ b. IsSourceOf b old.now shows.0) at.1 shows.1 in
        let is : understood (layout laid.form) sql ≡ Ok h.0 = subst (λ (schema : Schema). understood schema sql ≡ Ok h.0) laid.schema h.1.is in
        let tables : old.now ≡ record { schema = layout laid.form; trees = old.now.trees } = λ i. record { schema = laid.schema i; trees = old.now.trees } in
        fails_so (HasFailed old new) (inr (inr (given.1 laid.form h.0 old.step_limit old.now.trees e is
        (subst (λ (d : Database). RefusesToRead old.step_limit h.0.command d params e) (db ∙ tables) shows.2))))
        (statement_fault e)

pub failed_by : {X Form : Type 0} {layout : Form → Schema} (r : Result X Error) (old new : State) (sql : List ℕ) (params : Row) → IsQuery layout sql → IsGiven layout sql params → (IsTrue old.is_open → IsLaid layout old) → IfErr r (FailsToQuery sql params old new)
    → IfErr r (λ e. FailsFor (HasFailed old new) (statement_fault e))
failed_by (Ok x) old new sql params query_text given laid fails = tt
failed_by (Err e) old new sql params query_text given laid fails = elim (cases_Bool old.is_open) [
  | inl was_open ↦ query_failed old new e sql params query_text given (laid was_open) fails
  | inr shut ↦ fails_so (HasFailed old new) (inl shut) (statement_fault e)
]

-- ---- after a call that leaves the connection's faults in view

pub failed_since : (old mid new : State) {P : Trees → Type 0} → Survives old mid P → HasCleanDisk mid → mid.faults ≤ new.faults → HasFailed mid new → HasFailed old new
failed_since old mid new before clean counts (inl shut) = elim (cases_Bool old.is_open) [
  | inl was_open ↦ elim (before.closes clean was_open) [
    | inl still ↦ absurd (let clash : true ≡ false = sym still ∙ shut in cc)
    | inr risen ↦ inr (inl (more old.faults mid.faults new.faults risen counts))
  ]
  | inr was_shut ↦ inl was_shut
]
failed_since old mid new before clean counts (inr (inl risen)) = inr (inl (risen_before old.faults mid.faults new.faults before.counts risen))
failed_since old mid new before clean counts (inr (inr set)) = inr (inr (subst IsSome before.limit set))
