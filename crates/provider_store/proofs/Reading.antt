-- What a call that only reads leaves of a registry.
use Rattle.std.proofs.Common.{◌≡◌, List, length, Option, Some, None, Result, Ok, Err, IsTrue, OnOk, IfOk, sym, ap, ◌∙◌, subst, inl, inr, arith}
use Rattle.sqlite_trees.specs.declared.store.Store.{Ghosts}
use Rattle.sqlite.specs.Effect.{Database}
use Rattle.sqlite.specs.Held.{Held, state}
use Rattle.sqlite.specs.State.{State, HasCleanDisk, Survives}
use Rattle.scim_resource.specs.Rows.{StoredRecord}
use Rattle.provider_core.specs.Stores.{CountsFault, CountsFaults}
use Rattle.scim_key.specs.declared.stores.StoreFault.{StoreFault}
use Rattle.provider_store.specs.Calls.{Reads}
use Rattle.provider_store.specs.Format.{resource_tree}
use Rattle.provider_store.specs.Rows.{Holds, rows_of}
use Rattle.provider_store.specs.Connections.{IsLaid, resources}
use Rattle.provider_store.specs.Kept.{Kept, IsFaithful, IsSound, IsWhole, kept_rows}
use Rattle.scim_key.specs.declared.records.RecordName.{RecordName}
use Rattle.provider_core.specs.Rows.{row_named}
use Rattle.provider_store.specs.Connections.{FindsName}
use Rattle.provider_store.specs.Lookups.{found_of}
use Rattle.provider_store.specs.declared.tables.Found.{Found}
use Rattle.provider_store.proofs.Finding.{none_named, some_named}
use Rattle.sql_tables.specs.Statements.{Keeps}
use Rattle.sql_tables.proofs.Keeping.{kept_now, laid_still}

module _ {S : Type 0} (g : Ghosts S) where
  abbrev at : Kept S → State
  at k = state g k.conn

  -- a connection that is kept keeps the rows
  module _ (old new : Kept S) (usable : new.is_usable ≡ old.is_usable) (count : new.count ≡ old.count) (keeps : Keeps (at old) (at new)) where
    committed_same : IsLaid (at old) → IsTrue (at new).is_open → (at new).committed ≡ (at old).committed
    committed_same laid still = let same = kept_now (at old) (at new) keeps still laid in same.1 ∙ same.0 ∙ sym laid.committed

    pub rows_same : IsLaid (at old) → IsTrue (at new).is_open → kept_rows g new ≡ kept_rows g old
    rows_same laid still = ap (λ (d : Database). rows_of (d.trees resource_tree)) (committed_same laid still)

    pub whole_still : IsWhole g old → IsTrue (at new).is_open → IsWhole g new
    whole_still whole still =
        let same = kept_now (at old) (at new) keeps still whole.laid in
        let rows = rows_same whole.laid still in
        record {
          laid = laid_still (at old) (at new) keeps still whole.laid;
          holds = subst (λ (r : List StoredRecord). Holds (resources (at new)) r) (sym rows) (subst (λ (d : Database). Holds (d.trees resource_tree) (kept_rows g old)) (sym same.0) whole.holds);
          counted = count ∙ whole.counted ∙ sym (ap length rows);
        }

  -- the same, of whatever the calls gave
  pub sound_still : (old new : Kept S) → new.is_usable ≡ old.is_usable → new.count ≡ old.count → Survives (at old) (at new) (λ _. ⊥) → (HasCleanDisk (at new) → Keeps (at old) (at new)) → IsSound g old → IsSound g new
  sound_still old new usable count quiet keeps sound clean still use_it =
      let was = keeps clean in
      whole_still old new usable count was (sound (omega (arith, clean, quiet.clean)) (was.was_open still) (subst IsTrue usable use_it)) still

  pub faithful_was : (old new : Kept S) → new.is_usable ≡ old.is_usable → Survives (at old) (at new) (λ _. ⊥) → (HasCleanDisk (at new) → Keeps (at old) (at new)) → IsSound g old → IsFaithful g new → IsFaithful g old
  faithful_was old new usable quiet keeps sound it =
      let clean : HasCleanDisk (at old) = omega (arith, it.clean, quiet.clean) in
      let was_open = (keeps it.clean).was_open it.is_open in
      let was_usable = subst IsTrue usable it.usable in
      record { clean = clean; is_open = was_open; usable = was_usable; whole = sound clean was_open was_usable }

  if_ok : {T F : Type 0} {P Q : Type 0} (r : Result T F) → (P → Q) → OnOk r P → OnOk r Q
  if_ok (Ok x) f p = f p
  if_ok (Err e) f p = tt

  pub read_only : {T : Type 0} (old new : Kept S) (result : Result T StoreFault) → IsTrue old.is_usable → new.is_usable ≡ old.is_usable → new.count ≡ old.count → new.writes ≡ old.writes
      → Survives (at old) (at new) (λ _. ⊥) → (HasCleanDisk (at new) → Keeps (at old) (at new)) → (HasCleanDisk (at new) → OnOk result (IsTrue (at new).is_open)) → IsSound g old
      → CountsFaults CountsFault old.faults new.faults result
      → Reads g old new result
  read_only old new result was_usable usable count writes quiet keeps opens sound counts = record {
    was = faithful_was old new usable quiet keeps sound;
    same = λ it. rows_same old new usable count (keeps it.clean) (faithful_was old new usable quiet keeps sound it).whole.laid it.is_open;
    honest = λ clean. omega (arith, clean, quiet.clean);
    opened = λ clean. if_ok result (λ still.
        let use_it = subst IsTrue (sym usable) was_usable in
        record { clean = clean; is_open = still; usable = use_it; whole = sound_still old new usable count quiet keeps sound clean still use_it }) (opens clean);
    stop = λ clean found may. elim (quiet.crash clean may.0 may.1) [ inl was ↦ (may.0, was, may.2) | inr none ↦ absurd none ];
    counted = counts;
    unwritten = writes;
  }

  -- a call of a registry whose reopening failed answers at once
  pub refused : {T : Type 0} (old new : Kept S) (result : Result T StoreFault) (fault : StoreFault) → result ≡ Err fault → new.conn ≡ old.conn → (IsTrue new.is_usable → ⊥) → new.writes ≡ old.writes
      → CountsFault old.faults new.faults fault
      → Reads g old new result
  refused {T} old new result fault is conn shut writes counts = record {
    was = λ it. absurd (shut it.usable);
    same = λ it. absurd (shut it.usable);
    honest = subst (λ (h : Held S). HasCleanDisk (state g h)) conn;
    opened = λ clean. subst (λ (r : Result T StoreFault). OnOk r (IsFaithful g new)) (sym is) tt;
    stop = λ clean found may. (may.0, subst (λ (h : Held S). (state g h).may_leave may.0) conn may.1, may.2);
    counted = subst (λ (r : Result T StoreFault). CountsFaults CountsFault old.faults new.faults r) (sym is) counts;
    unwritten = writes;
  }

-- ---- what a look-up answers

module _ {S : Type 0} (g : Ghosts S) (old : Kept S) (whole : IsWhole g old) where
  pub named_answer : (name : RecordName) (r : Result (Option StoredRecord) StoreFault) (found : Result Found StoreFault) → IfOk r (λ row. found ≡ Ok (found_of row))
      → IfOk found (FindsName (resources (state g old.conn)) name) → IfOk r (λ row. row ≡ row_named name (kept_rows g old))
  named_answer name (Ok None) found is finds = sym (none_named (resources (state g old.conn)) (kept_rows g old) whole.holds name (rw is at finds))
  named_answer name (Ok (Some s)) found is finds = sym (some_named (resources (state g old.conn)) (kept_rows g old) whole.holds name s (rw is at finds))
  named_answer name (Err e) found is finds = tt
