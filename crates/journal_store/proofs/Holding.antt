-- Entries that the rows of a table show are on each list of them.
use Rattle.std.proofs.Common.{◌≡◌, ℕ, suc, length, List, [], ◌∷◌, map, Some, Less, nat_cmp, sym, ap, ◌∙◌, subst, arith}
use Rattle.std.specs.Cmp.Lexicographic.{slice_cmp}
use Rattle.std.specs.List.{AllByRecursion, AllZip}
use Rattle.std.specs.List.Sorted.{IsStrictlySortedBy}
use Rattle.std.proofs.lemmas.List.Sorted.{length_permutation, IsPermutation-sym}
use Rattle.sqlite_value.specs.Order.{Row}
use Rattle.sqlite_trees.specs.Tree.{Trees}
use Rattle.sqlite_rules.specs.Lists.{Has}
use Rattle.sqlite_rules.proofs.ListLemmas.{all_from, all_has, test_from, test_has}
use Rattle.scim_key.specs.Records.{name_cmp}
use Rattle.scim_key.specs.declared.records.Kind.{Kind}
use Rattle.scim_key.specs.declared.records.Kind.TheVariants.{User, Group}
use Rattle.scim_key.specs.declared.records.RecordName.{RecordName}
use Rattle.source_csv.specs.Records.{members_of, row_name}
use Rattle.journal_core.specs.declared.entries.Entry.{Entry}
use Rattle.journal_store.specs.Connections.{ListsAllBy, Shows}
use Rattle.journal_store.specs.Formats.{FormatData}
use Rattle.journal_store.specs.Opening.{AreInOrder, AreLawful, HasMembersOf, HoldsEntriesBy, is_identified, keys_of}
use Rattle.journal_store.proofs.Decoding.{key_from}
use Rattle.journal_store.proofs.Loading.{Sorted, has_map, map_has, names_of, permuted, zip_left, zip_right}
use Rattle.journal_store.proofs.Repeating.{compare_names}

-- ---- two lists of one table

zip_length : (kind : Kind) (rows : List Row) (list : List Entry) → AllZip (Shows kind) rows list → length rows ≡ length list
zip_length kind [] [] zip = omega arith
zip_length kind [] (e ∷ list) zip = absurd zip
zip_length kind (r ∷ rows) [] zip = absurd zip
zip_length kind (r ∷ rows) (e ∷ list) zip = ap suc (zip_length kind rows list zip.1)

one_entry : (kind : Kind) (r : Row) (e f : Entry) → Shows kind r e → Shows kind r f → e ≡ f
one_entry kind r e f first second = let same : Some e ≡ Some f = sym first.entry_is ∙ second.entry_is in cc

module _ (kind : Kind) (columns : Row → Row) (rows : List Row) (list other : List Entry) (lists : ListsAllBy (Shows kind) columns rows list) (others : ListsAllBy (Shows kind) columns rows other) where
  abbrev table : List Row
  table = map columns rows

  same_length : length list ≡ length other
  same_length =
      sym (zip_length kind lists.rows list lists.shown.each) ∙ length_permutation table lists.rows lists.all
      ∙ sym (length_permutation table others.rows others.all) ∙ zip_length kind others.rows other others.shown.each

  on_both_lists : (e : Entry) → Has list e → Has other e
  on_both_lists e there =
      let row = zip_right (Shows kind) lists.rows list e lists.shown.each there in
      let found = zip_left (Shows kind) others.rows other row.0 others.shown.each (permuted others.rows table row.0 (IsPermutation-sym table others.rows others.all) (permuted table lists.rows row.0 lists.all row.1)) in
      subst (Has other) (one_entry kind row.0 found.0 e found.2 row.2) found.1

-- ---- valid entries

module _ (f : FormatData) (db : Trees) (users groups : List Entry) (lists_users : ListsAllBy (Shows User) (f.columns User) (db (f.tree User)) users)
    (lists_groups : ListsAllBy (Shows Group) (f.columns Group) (db (f.tree Group)) groups) (holds : HoldsEntriesBy f db) where
  held_user : (e : Entry) → Has users e → Has holds.users e
  held_user = on_both_lists User (f.columns User) (db (f.tree User)) users holds.users lists_users holds.all_users

  held_group : (e : Entry) → Has groups e → Has holds.groups e
  held_group = on_both_lists Group (f.columns Group) (db (f.tree Group)) groups holds.groups lists_groups holds.all_groups

  key_there : (key : List ℕ) → Has (keys_of holds.users) key → Has (keys_of users) key
  key_there key there =
      let it = has_map (λ (e : Entry). (row_name e.row).key) holds.users key there in
      subst (Has (keys_of users)) (sym it.2) (map_has (λ (e : Entry). (row_name e.row).key) users it.0 (on_both_lists User (f.columns User) (db (f.tree User)) holds.users users holds.all_users lists_users it.0 it.1))

  members_there : (g : Entry) → HasMembersOf (keys_of holds.users) g → HasMembersOf (keys_of users) g
  members_there g has = all_from (Has (keys_of users)) (members_of g.row) (λ key there. key_there key (all_has (Has (keys_of holds.users)) (members_of g.row) key has there))

  pub lawful_lists : AreLawful users groups
  lawful_lists = record {
    few_users = omega (arith, holds.lawful.few_users, same_length User (f.columns User) (db (f.tree User)) users holds.users lists_users holds.all_users);
    few_groups = omega (arith, holds.lawful.few_groups, same_length Group (f.columns Group) (db (f.tree Group)) groups holds.groups lists_groups holds.all_groups);
    identified_users = test_from is_identified users (λ e there. test_has is_identified holds.users e holds.lawful.identified_users (held_user e there));
    identified_groups = test_from is_identified groups (λ e there. test_has is_identified holds.groups e holds.lawful.identified_groups (held_group e there));
    members = all_from (HasMembersOf (keys_of users)) groups (λ g there. members_there g (all_has (HasMembersOf (keys_of holds.users)) holds.groups g holds.lawful.members (held_group g there)));
  }

-- ---- the keys of a list

keys_above : (kind : Kind) (name : RecordName) → name.kind ≡ kind → (rows : List Row) (list : List Entry) → AllZip (Shows kind) rows list → AllByRecursion (λ n. name_cmp name n ≡ Less) (names_of list) → AllByRecursion (λ k. slice_cmp nat_cmp name.key k ≡ Less) (keys_of list)
keys_above kind name is [] [] zip below = tt
keys_above kind name is [] (e ∷ list) zip below = absurd zip
keys_above kind name is (r ∷ rows) [] zip below = tt
keys_above kind name is (r ∷ rows) (e ∷ list) zip below =
    (sym (compare_names kind name (row_name e.row) is (key_from kind r e zip.0.entry_is).1) ∙ below.0, keys_above kind name is rows list zip.1 below.1)

keys_rise : (kind : Kind) (rows : List Row) (list : List Entry) → AllZip (Shows kind) rows list → Sorted (names_of list) → AreInOrder (keys_of list)
unfolding IsStrictlySortedBy
keys_rise kind [] [] zip rising = tt
keys_rise kind [] (e ∷ list) zip rising = absurd zip
keys_rise kind (r ∷ rows) [] zip rising = tt
keys_rise kind (r ∷ rows) (e ∷ list) zip rising = (keys_above kind (row_name e.row) (key_from kind r e zip.0.entry_is).1 rows list zip.1 rising.0, keys_rise kind rows list zip.1 rising.1)

pub keys_in_order : (columns : Row → Row) (rows : List Row) (users : List Entry) → ListsAllBy (Shows User) columns rows users → AreInOrder (keys_of users)
keys_in_order columns rows users lists = keys_rise User lists.rows users lists.shown.each lists.shown.rising
