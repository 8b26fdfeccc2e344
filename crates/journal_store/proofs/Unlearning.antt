-- What the tables list after a reset.
use Rattle.std.proofs.Common.{◌≡◌, ℤ, List, [], ◌∷◌, ◌++◌, filter, map, refl, sym, ap, ◌∙◌, subst, IsPermutation}
use Rattle.std.specs.List.{AllZip, count_by}
use Rattle.std.specs.List.Sorted.{IsStrictlySortedBy}
use Rattle.std.proofs.lemmas.List.{map-append}
use Rattle.std.proofs.lemmas.List.Sorted.{IsPermutation-sym, IsPermutation-trans}
use Rattle.sqlite_value.specs.Order.{Row}
use Rattle.sqlite_trees.specs.Tree.{Trees, has_rowid, rowid}
use Rattle.sqlite_trees.proofs.ListLemmas.{IsPermutation-filter, all_of, filter-map, filter_same, map-map}
use Rattle.sqlite_trees.specs.declared.store.Store.{Ghosts}
use Rattle.sqlite.specs.Effect.{Database}
use Rattle.sqlite.specs.Held.{state}
use Rattle.sqlite.proofs.Callers.{one_permutation}
use Rattle.scim_key.specs.Records.{name_cmp}
use Rattle.scim_key.specs.declared.records.Kind.{Kind}
use Rattle.scim_key.specs.declared.records.Kind.TheVariants.{User, Group}
use Rattle.scim_key.specs.declared.records.RecordName.{RecordName}
use Rattle.source_csv.specs.Records.{row_name}
use Rattle.journal_core.specs.Entries.{EntryMap, IsListOf, named}
use Rattle.journal_core.specs.Forgetting.{forgotten, is_learnt, learnt_count, unlearnt}
use Rattle.journal_core.specs.declared.entries.Entry.{Entry}
use Rattle.sql_tables.proofs.Selecting.{mapped}
use Rattle.journal_store.specs.Connections.{AreNumbered, HasNumbers, ListsAll, Shows}
use Rattle.journal_store.specs.Format.{entry_tree}
use Rattle.journal_store.specs.Kept.{IsFaithful, Kept, kept_entries}
use Rattle.journal_store.specs.Resets.{AreListed, Resets, ResetsAll, reset_row}
use Rattle.journal_store.specs.Rows.{entries_in, shown_row}
use Rattle.journal_store.proofs.Forgetting.{forgotten_is}
use Rattle.journal_store.proofs.Loading.{has_map, lists_both, map_has, permuted, zip_left}
use Rattle.journal_store.proofs.Resetting.{AllShow, reset_shown, shown_reset, shows_unlearnt}

-- ---- one table

-- each row of a table that is listed shows an entry
pub all_show : (kind : Kind) (db : Trees) (list : List Entry) → ListsAll kind db list → AllShow kind (db (entry_tree kind))
all_show kind db list lists r there =
    let shown = map (shown_row kind) (db (entry_tree kind)) in
    let among = permuted lists.rows shown (shown_row kind r) (IsPermutation-sym shown lists.rows lists.all) (map_has (shown_row kind) (db (entry_tree kind)) r there) in
    let it = zip_left (Shows kind) lists.rows list (shown_row kind r) lists.shown.each among in
    (it.0, it.2.entry_is)

own_rowid : (kind : Kind) (r : Row) → rowid (reset_row kind r) ≡ rowid r
own_rowid User r = refl
own_rowid Group r = refl

same_test : (kind : Kind) (n : ℤ) (r : Row) → has_rowid n (reset_row kind r) ≡ has_rowid n r
same_test User n r = refl
same_test Group n r = refl

zip_unlearnt : (kind : Kind) (rows : List Row) (list : List Entry) → AllZip (Shows kind) rows list → AllZip (Shows kind) (map (reset_shown kind) rows) (map unlearnt list)
zip_unlearnt kind [] [] zip = tt
zip_unlearnt kind [] (e ∷ list) zip = absurd zip
zip_unlearnt kind (r ∷ rows) [] zip = absurd zip
zip_unlearnt kind (r ∷ rows) (e ∷ list) zip = (shows_unlearnt kind r e zip.0, zip_unlearnt kind rows list zip.1)

shown_after : (kind : Kind) (table : List Row) → map (shown_row kind) (map (reset_row kind) table) ≡ map (reset_shown kind) (map (shown_row kind) table)
shown_after kind [] = refl
shown_after kind (r ∷ table) = λ i. shown_reset kind r i ∷ shown_after kind table i

module _ (kind : Kind) (old new : Trees) (resets : Resets kind old new) where
  abbrev was : List Row
  was = old (entry_tree kind)

  abbrev is : List Row
  is = new (entry_tree kind)

  lists_unlearnt : (list : List Entry) → ListsAll kind old list → ListsAll kind new (map unlearnt list)
  lists_unlearnt list lists = record {
    rows = map (reset_shown kind) lists.rows;
    all = IsPermutation-trans (map (shown_row kind) is) (map (shown_row kind) (map (reset_row kind) was)) (map (reset_shown kind) lists.rows)
        (IsPermutation-sym (map (shown_row kind) (map (reset_row kind) was)) (map (shown_row kind) is) (mapped (shown_row kind) (map (reset_row kind) was) is resets))
        (subst (λ l. IsPermutation l (map (reset_shown kind) lists.rows)) (sym (shown_after kind was)) (mapped (reset_shown kind) (map (shown_row kind) was) lists.rows lists.all));
    shown = record {
      each = zip_unlearnt kind lists.rows list lists.shown.each;
      rising = subst (IsStrictlySortedBy name_cmp) (sym (map-map (λ (e : Entry). row_name e.row) unlearnt list)) lists.shown.rising;
    };
  }

  numbered_still : AreNumbered was → AreNumbered is
  numbered_still numbered x there =
      let from = has_map (reset_row kind) was x (permuted (map (reset_row kind) was) is x resets there) in
      let number = numbered from.0 from.1 in
      let n = number.0 in
      let same : filter (has_rowid n) (map (reset_row kind) was) ≡ reset_row kind from.0 ∷ [] =
      filter-map (has_rowid n) (reset_row kind) was
      ∙ ap (map (reset_row kind)) (filter_same (λ r. has_rowid n (reset_row kind r)) (has_rowid n) was (all_of (λ r. has_rowid n (reset_row kind r) ≡ has_rowid n r) (same_test kind n) was) ∙ number.2) in
      let one : filter (has_rowid n) is ≡ reset_row kind from.0 ∷ [] =
      one_permutation (reset_row kind from.0) (filter (has_rowid n) is) (subst (λ l. IsPermutation l (filter (has_rowid n) is)) same (IsPermutation-filter (has_rowid n) (map (reset_row kind) was) is resets)) in
      (n, ap rowid from.2 ∙ own_rowid kind from.0 ∙ number.1, one ∙ ap (λ (r : Row). r ∷ []) (sym from.2))

-- ---- both tables

-- the entries are forgotten, and each row has its number still
pub reset_entries : (old new : Trees) → AreListed old → ResetsAll old new → HasNumbers new × (entries_in new ≡ forgotten (entries_in old))
reset_entries old new listed resets =
    let users = listed.users.list in
    let groups = listed.groups.list in (
      record { users = numbered_still User old new resets.users listed.users.numbered; groups = numbered_still Group old new resets.groups listed.groups.numbered },
      forgotten_is (entries_in old) (entries_in new) (users ++ groups) (lists_both entry_tree shown_row old users groups listed.users.shows listed.groups.shows)
          (subst (IsListOf (entries_in new)) (sym (map-append unlearnt users groups))
          (lists_both entry_tree shown_row new (map unlearnt users) (map unlearnt groups) (lists_unlearnt User old new resets.users users listed.users.shows) (lists_unlearnt Group old new resets.groups groups listed.groups.shows))),
    )

-- the same of a journal
pub resets_mean : {S : Type 0} (g : Ghosts S) (old : Kept S) → (IsFaithful g old → AreListed (state g old.conn).now.trees)
    → IsFaithful g old → (db : Trees) → ResetsAll (state g old.conn).now.trees db → HasNumbers db × (entries_in db ≡ forgotten (kept_entries g old))
resets_mean g old listed it db resets =
    let made = reset_entries (state g old.conn).now.trees db (listed it) resets in
    (made.0, made.1 ∙ ap (λ (d : Database). forgotten (entries_in d.trees)) (sym it.whole.laid.committed))

-- ---- a journal that was listed

first_entries : (list : List Entry) → map (λ (e : RecordName × Entry). e.1) (map named list) ≡ list
first_entries [] = refl
first_entries (e ∷ list) = ap (λ l. e ∷ l) (first_entries list)

pub count_is : (m : EntryMap) (list : List Entry) → IsListOf m list → count_by is_learnt list ≡ learnt_count m
count_is m list is = ap (count_by is_learnt) (sym (ap (map (λ (e : RecordName × Entry). e.1)) is.whole ∙ first_entries list))

pub listed_both : {S : Type 0} (g : Ghosts S) (mid new : Kept S) (users groups : List Entry) → IsFaithful g new → (state g new.conn).now.trees ≡ (state g mid.conn).now.trees
    → ListsAll User (state g mid.conn).now.trees users → ListsAll Group (state g new.conn).now.trees groups → AreListed (state g new.conn).now.trees
listed_both g mid new users groups it same first second = record {
  users = record { numbered = it.whole.numbers.users; list = users; shows = subst (λ t. ListsAll User t users) (sym same) first };
  groups = record { numbered = it.whole.numbers.groups; list = groups; shows = second };
}
