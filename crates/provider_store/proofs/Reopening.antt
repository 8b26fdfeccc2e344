-- What an opening makes of a registry, and a reopening.
use Rattle.std.proofs.Common.{◌≡◌, List, [], ◌∷◌, pos, length, IsTrue, sym, ap, ◌∙◌, subst, inl, inr, arith, map}
use Rattle.sqlite_value.specs.Order.{Row, column}
use Rattle.sqlite_value.specs.declared.value.Value.TheVariants.{Int}
use Rattle.sqlite_trees.specs.declared.store.Store.{Ghosts}
use Rattle.sqlite.specs.Effect.{Database}
use Rattle.sqlite.specs.Held.{state}
use Rattle.sqlite.specs.State.{State, HasCleanDisk}
use Rattle.scim_resource.specs.Rows.{StoredRecord}
use Rattle.provider_core.specs.Stores.{CountsFault}
use Rattle.scim_key.specs.declared.stores.StoreFault.{StoreFault}
use Rattle.provider_store.specs.Calls.{OpensAgain}
use Rattle.provider_store.specs.Format.{resource_tree, format_number}
use Rattle.provider_store.specs.Rows.{Holds, rows_of}
use Rattle.provider_store.specs.Lawful.{AreAllLawful}
use Rattle.provider_store.specs.Connections.{resources}
use Rattle.provider_store.specs.Kept.{Kept, IsHonest, IsWhole, MayHold}
use Rattle.provider_store.specs.Lookups.{answered, failing}
use Rattle.provider_store.specs.Opening.{IsStore}
use Rattle.provider_store.proofs.Holding.{held_rows}
use Rattle.sql_tables.specs.Statements.{Looks}
use Rattle.sql_tables.proofs.Keeping.{kept_now, laid_still}

-- the rows that were committed are those that the tables hold
pub committed_rows : (s : State) (rows : List StoredRecord) → IsStore s rows → rows_of (s.committed.trees resource_tree) ≡ rows
committed_rows s rows store = ap (λ (d : Database). rows_of (d.trees resource_tree)) store.laid.committed ∙ held_rows (resources s) rows store.holds

-- a store that is looked at stays
pub store_on : (old new : State) (rows : List StoredRecord) → Looks old new → IsStore old rows → HasCleanDisk new → IsTrue new.is_open → IsStore new rows
store_on old new rows looks store clean still =
    let keeps = looks.keeps clean in
    let same = (kept_now old new keeps still store.laid).0 in
    record {
      laid = laid_still old new keeps still store.laid;
      format = subst (λ (d : Database). map (λ (r : Row). column r 2) (d.trees 0) ≡ Int (pos format_number) ∷ []) (sym same) store.format;
      holds = subst (λ (d : Database). Holds (d.trees resource_tree) rows) (sym same) store.holds;
      lawful = subst (λ (d : Database). AreAllLawful (d.trees resource_tree) (length rows)) (sym same) store.lawful;
    }

module _ {S : Type 0} (g : Ghosts S) where
  abbrev at : Kept S → State
  at k = state g k.conn

  pub whole_of : (k : Kept S) (rows : List StoredRecord) → IsStore (at k) rows → length rows ≡ k.count → IsWhole g k
  whole_of k rows store count =
      let same = committed_rows (at k) rows store in
      record { laid = store.laid; holds = subst (Holds (resources (at k))) (sym same) store.holds; counted = sym count ∙ ap length (sym same) }

  module _ (old new : Kept S) (looks : Looks (at old) (at new)) where
    stop_same : (found : List StoredRecord) → IsHonest g new → MayHold g new found → MayHold g old found
    stop_same found clean may = elim (looks.quiet.crash clean may.0 may.1) [ inl was ↦ (may.0, was, may.2) | inr none ↦ absurd none ]

    pub reopened : ((s : S) → IsTrue (g.view s).is_open → g.recovers s (g.view s).committed) → IsTrue new.is_usable
        → (HasCleanDisk (at new) → (rows : List StoredRecord) × IsStore (at old) rows × (length rows ≡ new.count)) → (HasCleanDisk (at new) → IsTrue (at new).is_open) → new.faults ≡ old.faults → new.writes ≡ old.writes
        → OpensAgain g old new answered
    reopened stays usable stores opens faults writes = record {
      found = λ clean.
          let it = stores clean in
          let still = opens clean in
          let store = store_on (at old) (at new) it.0 looks it.1 clean still in
          ((at old).committed.trees, stays old.conn.store ((looks.keeps clean).was_open still), committed_rows (at new) it.0 store ∙ sym (committed_rows (at old) it.0 it.1));
      honest = λ clean. omega (arith, clean, looks.quiet.clean);
      opened = λ clean.
          let it = stores clean in
          let still = opens clean in
          let store = store_on (at old) (at new) it.0 looks it.1 clean still in
          record { clean = clean; is_open = still; usable = usable; whole = whole_of new it.0 store it.2 };
      stop = λ clean found may. stop_same found clean may;
      counted = faults;
      unwritten = writes;
    }

    pub not_reopened : (fault : StoreFault) → CountsFault old.faults new.faults fault → new.writes ≡ old.writes
        → OpensAgain g old new (failing {T = Unit {0}} fault)
    not_reopened fault counts writes = record {
      found = λ _. tt;
      honest = λ clean. omega (arith, clean, looks.quiet.clean);
      opened = λ _. tt;
      stop = λ clean found may. stop_same found clean may;
      counted = counts;
      unwritten = writes;
    }
