-- What an opening makes of a journal, and a reopening.
use Rattle.std.proofs.Common.{◌≡◌, [], ◌∷◌, pos, IsTrue, sym, ap, ◌∙◌, subst, inl, inr, arith, map}
use Rattle.sqlite_value.specs.Order.{Row, column}
use Rattle.sqlite_value.specs.declared.value.Value.TheVariants.{Int}
use Rattle.sqlite_trees.specs.declared.store.Store.{Ghosts}
use Rattle.sqlite.specs.Effect.{Database}
use Rattle.sqlite.specs.Held.{state}
use Rattle.sqlite.specs.State.{State, HasCleanDisk}
use Rattle.journal_core.specs.Entries.{EntryMap}
use Rattle.journal_core.specs.Stores.{CountsFault}
use Rattle.scim_key.specs.declared.stores.StoreFault.{StoreFault}
use Rattle.sql_tables.specs.Layouts.{format_tree}
use Rattle.sql_tables.specs.Statements.{Looks}
use Rattle.sql_tables.proofs.Keeping.{kept_now, laid_still}
use Rattle.journal_store.specs.Calls.{OpensAgain}
use Rattle.journal_store.specs.Formats.{FormatData}
use Rattle.journal_store.specs.Rows.{entries_by}
use Rattle.journal_store.specs.Connections.{HasNumbersBy}
use Rattle.journal_store.specs.Kept.{Kept, IsHonest, IsWhole, MayHold}
use Rattle.journal_store.specs.Opening.{HoldsEntriesBy, IsStore, IsStoreBy}
use Rattle.journal_store.proofs.Reading.{answered, failing}

-- given a format
module _ {f : FormatData} where
  -- the entries that were committed are those that the tables hold
  pub committed_entries : (s : State) (entries : EntryMap) → IsStoreBy f s entries → entries_by f.tree f.columns s.committed.trees ≡ entries
  committed_entries s entries store = ap (λ (d : Database). entries_by f.tree f.columns d.trees) store.laid.committed ∙ store.are

  -- a store that is looked at stays
  pub store_on : (old new : State) (entries : EntryMap) → Looks old new → IsStoreBy f old entries → HasCleanDisk new → IsTrue new.is_open → IsStoreBy f new entries
  store_on old new entries looks store clean still =
      let keeps = looks.keeps clean in
      let same = (kept_now old new keeps still store.laid).0 in
      record {
        laid = laid_still old new keeps still store.laid;
        format = subst (λ (d : Database). map (λ (r : Row). column r 2) (d.trees format_tree) ≡ Int (pos f.number) ∷ []) (sym same) store.format;
        numbers = subst (λ (d : Database). HasNumbersBy f.tree d.trees) (sym same) store.numbers;
        holds = subst (λ (d : Database). HoldsEntriesBy f d.trees) (sym same) store.holds;
        are = ap (λ (d : Database). entries_by f.tree f.columns d.trees) same ∙ store.are;
      }

module _ {S : Type 0} (g : Ghosts S) where
  abbrev at : Kept S → State
  at k = state g k.conn

  pub whole_of : (k : Kept S) (entries : EntryMap) → IsStore (at k) entries → IsWhole g k
  whole_of k entries store = record { laid = store.laid; numbers = store.numbers }

  module _ (old new : Kept S) (looks : Looks (at old) (at new)) where
    stop_same : (found : EntryMap) → IsHonest g new → MayHold g new found → MayHold g old found
    stop_same found clean may = elim (looks.quiet.crash clean may.0 may.1) [ inl was ↦ (may.0, was, may.2) | inr none ↦ absurd none ]

    pub reopened : ((s : S) → IsTrue (g.view s).is_open → g.recovers s (g.view s).committed) → IsTrue new.is_usable
        → (HasCleanDisk (at new) → (entries : EntryMap) × IsStore (at old) entries) → (HasCleanDisk (at new) → IsTrue (at new).is_open) → new.faults ≡ old.faults → new.writes ≡ old.writes
        → OpensAgain g old new answered
    reopened stays usable stores opens faults writes = record {
      found = λ clean.
          let it = stores clean in
          let still = opens clean in
          let store = store_on (at old) (at new) it.0 looks it.1 clean still in
          ((at old).committed.trees, stays old.conn.store ((looks.keeps clean).was_open still), committed_entries (at new) it.0 store ∙ sym (committed_entries (at old) it.0 it.1));
      honest = λ clean. omega (arith, clean, looks.quiet.clean);
      opened = λ clean.
          let it = stores clean in
          let still = opens clean in
          record { clean = clean; is_open = still; usable = usable; whole = whole_of new it.0 (store_on (at old) (at new) it.0 looks it.1 clean still) };
      stop = λ clean found may. stop_same found clean may;
      counted = faults;
      unwritten = writes;
    }

    pub not_reopened : (fault : StoreFault) → CountsFault old.faults new.faults fault → new.writes ≡ old.writes
        → OpensAgain g old new (failing fault)
    not_reopened fault counts writes = record {
      found = λ _. tt;
      honest = λ clean. omega (arith, clean, looks.quiet.clean);
      opened = λ _. tt;
      stop = λ clean found may. stop_same found clean may;
      counted = counts;
      unwritten = writes;
    }
