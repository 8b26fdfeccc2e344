-- What a commit leaves of a journal that was made or carried over.
use Rattle.std.proofs.Common.{◌≡◌, false, map, refl, sym, ap, ◌∙◌, subst}
use Rattle.sqlite_value.specs.Order.{Row, column}
use Rattle.sqlite_trees.specs.Tree.{Trees}
use Rattle.sqlite.specs.Effect.{Database}
use Rattle.sqlite.specs.State.{State, Shows}
use Rattle.journal_core.specs.Entries.{EntryMap}
use Rattle.journal_store.specs.Batches.{settled}
use Rattle.journal_store.specs.Connections.{HasNumbers}
use Rattle.journal_store.specs.Formats.{FormatData}
use Rattle.journal_store.specs.Opening.{AreEmptied, HoldsEntries, IsStore, IsStoreBy, LeavesCarriedBy}
use Rattle.journal_store.specs.Rows.{entries_in}

-- at the beginning of a transaction
pub begun_store : {f : FormatData} (s : State) (entries : EntryMap) → IsStoreBy f s entries → IsStoreBy f (settled s) entries
begun_store s entries it = record {
  laid = record { form = it.laid.form; schema = it.laid.schema; committed = refl; autocommit = refl };
  format = it.format;
  numbers = it.numbers;
  holds = it.holds;
  are = it.are;
}

-- at its end
pub store_kept : (last end : State) (entries : EntryMap) → IsStore (settled last) entries → Shows last end last.now last.now false → IsStore end entries
store_kept last end entries it shows = record {
  laid = record {
    form = it.laid.form;
    schema = ap (λ (d : Database). d.schema) shows.now_is ∙ it.laid.schema;
    committed = shows.committed_is ∙ sym shows.now_is;
    autocommit = shows.mode;
  };
  format = ap (λ (d : Database). map (λ (r : Row). column r 2) (d.trees 0)) shows.now_is ∙ it.format;
  numbers = subst (λ (d : Database). HasNumbers d.trees) (sym shows.now_is) it.numbers;
  holds = subst (λ (d : Database). HoldsEntries d.trees) (sym shows.now_is) it.holds;
  are = ap (λ (d : Database). entries_in d.trees) shows.now_is ∙ it.are;
}

-- the tables of a format are empty after a commit too
pub emptied_kept : (f : FormatData) (last end : State) → AreEmptied f last.now.trees → Shows last end last.now last.now false → AreEmptied f end.now.trees
emptied_kept f last end none shows = subst (λ (d : Database). AreEmptied f d.trees) (sym shows.now_is) none

-- a stop at the commit leaves the entries in the tables of the current format, and none in those of the older one
pub stop_leaves : (f : FormatData) (old last : State) (entries : EntryMap) (db : Trees) → IsStoreBy f old entries → IsStore (settled last) entries → AreEmptied f last.now.trees → db ≡ last.now.trees → LeavesCarriedBy f old db
stop_leaves f old last entries db stood it none is = record {
  entries = entries;
  stood = stood;
  are = ap (λ (t : Trees). entries_in t) is ∙ it.are;
  format = ap (λ (t : Trees). map (λ (r : Row). column r 2) (t 0)) is ∙ it.format;
  emptied = subst (AreEmptied f) (sym is) none;
}
