-- At most one row of a table has a key, because the tables obey their schema.
use Rattle.std.proofs.Common.{◌≡◌, ◌&&◌, ℕ, ℤ, true, false, List, [], ◌∷◌, filter, Some, Ordering, Less, Equal, Greater, refl, sym, ap, ◌∙◌, inl, inr}
use Rattle.std.specs.Cmp.{tied_itself}
use Rattle.std.specs.FinMap.{get}
use Rattle.std.specs.Ordering.{int_eq, is_eq, is_ne}
use Rattle.std.proofs.lemmas.Bool.{and_parts, cases_Bool}
use Rattle.std.proofs.lemmas.Map.Text.{is_eq-slice_cmp}
use Rattle.std.proofs.lemmas.Slice.Eq.{bytes_eq-Decides}
use Rattle.sqlite_value.specs.declared.keys.Collation.{Collation}
use Rattle.sqlite_value.specs.declared.keys.Collation.TheVariants.{Binary, NoCase, RTrim}
use Rattle.sqlite_value.specs.declared.keys.Order.{Order}
use Rattle.sqlite_value.specs.declared.value.Value.{Value}
use Rattle.sqlite_value.specs.declared.value.Value.TheVariants.{Null, Int, Real, Text, Blob}
use Rattle.sqlite_value.specs.Keys.{first_key, without_case, without_end_spaces}
use Rattle.sqlite_value.specs.Order.{Row, column, value_cmp}
use Rattle.sqlite_value.proofs.OrderLemmas.{value_cmp-Int, value_cmp-Text, value_cmp_total}
use Rattle.sqlite_sql.specs.Ops.{binary}
use Rattle.sqlite_trees.specs.Tree.{Trees, rowid, has_rowid}
use Rattle.sqlite_trees.proofs.ListLemmas.{filter_same}
use Rattle.sqlite_schema.specs.declared.schema.Constraint.TheVariants.{Unique}
use Rattle.sqlite_schema.specs.Rules.{agree, clashes, differ, equal, passes}
use Rattle.sqlite_rules.specs.Lists.{Has}
use Rattle.sqlite_rules.proofs.ListLemmas.{all_from, all_has, some_from}
use Rattle.sqlite.specs.Effect.{IsDatabase}
use Rattle.scim_key.specs.declared.records.Kind.{Kind}
use Rattle.scim_key.specs.declared.records.Kind.TheVariants.{User, Group}
use Rattle.scim_key.specs.declared.records.RecordName.{RecordName}
use Rattle.source_csv.specs.Records.{row_name}
use Rattle.journal_core.specs.declared.entries.Entry.{Entry}
use Rattle.journal_store.specs.Connections.{AreNumbered, HasNumbers, IsThere, has_key}
use Rattle.journal_store.specs.Format.{Form, entry_tree, journal_schema, third_groups, third_users}
use Rattle.journal_store.specs.Tables.{key_places, table_of}
use Rattle.journal_store.specs.Rows.{entries_in, entry_in, shown_row}
use Rattle.journal_store.proofs.Putting.{not_true, numbered_one, numbers_of}
use Rattle.journal_store.proofs.Standing.{has_own_key, stands_some}
use Rattle.sql_tables.proofs.Values.{rowid_is}

-- ---- rows of one key clash

text_of_key : (v : Value) (key : List ℕ) → is_eq (value_cmp v (Text key)) ≡ true → v ≡ Text key
unfolding value_cmp
text_of_key Null key is = absurd (cc)
text_of_key (Int n) key is = absurd (cc)
text_of_key (Real x) key is = absurd (cc)
text_of_key (Text t) key is = ap Text ((bytes_eq-Decides t key).0 (sym (ap is_eq (value_cmp-Text t key) ∙ is_eq-slice_cmp t key) ∙ is))
text_of_key (Blob b) key is = absurd (cc)

equal_itself : (how : Collation) (key : List ℕ) → equal how (Text key) (Text key) ≡ true
unfolding binary
equal_itself Binary key = rw (tied_itself value_cmp_total (Text key)) refl
equal_itself NoCase key = rw (tied_itself value_cmp_total (Text (without_case key))) refl
equal_itself RTrim key = rw (tied_itself value_cmp_total (Text (without_end_spaces key))) refl

ne_of : (o : Ordering) → is_eq o ≡ false → is_ne o ≡ true
ne_of Less is = refl
ne_of Equal is = absurd (cc)
ne_of Greater is = refl

differs : (m n : ℤ) → int_eq m n ≡ false → differ (Int m) (Int n) ≡ true
unfolding binary
differs m n apart = rw (ne_of (value_cmp (Int m) (Int n)) (ap is_eq (value_cmp-Int m n) ∙ apart)) refl

two_clash : (o : Order) (table : List Row) (r x : Row) (key : List ℕ) (n m : ℤ) → Has table x → column r 1 ≡ Text key → column x 1 ≡ Text key → rowid r ≡ Int n → rowid x ≡ Int m → int_eq m n ≡ false
    → clashes o key_places table r ≡ true
two_clash o table r x key n m there r_key x_key r_number x_number apart =
    let same : equal (first_key o).collation (column x 1) (column r 1) ≡ true = (λ i. equal (first_key o).collation (x_key i) (r_key i)) ∙ equal_itself (first_key o).collation key in
    let other : differ (rowid x) (rowid r) ≡ true = (λ i. differ (x_number i) (r_number i)) ∙ differs m n apart in
    some_from (λ y. agree o key_places y key_places r && differ (rowid y) (rowid r)) table x there (rw (same, other) refl)

-- ---- a table that obeys its schema

abbrev order_of : Form → Kind → Order
order_of f User = f.users
order_of f Group = f.groups

module _ (f : Form) (db : Trees) (sound : IsDatabase (record { schema = journal_schema f; trees = db })) where
  unclashed : (kind : Kind) (r : Row) → Has (db (entry_tree kind)) r → clashes (order_of f kind) key_places (db (entry_tree kind)) r ≡ false
  unclashed User r there =
      let rule = all_has (λ row. passes Unique (journal_schema f) db (table_of third_users f.users) row ≡ true) (db 7) r (sound.obeys.rules Unique).1.1.1.1.0 there in
      not_true (clashes f.users key_places (db 7) r) (and_parts _ _ rule).0
  unclashed Group r there =
      let rule = all_has (λ row. passes Unique (journal_schema f) db (table_of third_groups f.groups) row ≡ true) (db 9) r (sound.obeys.rules Unique).1.1.1.1.1.0 there in
      not_true (clashes f.groups key_places (db 9) r) (and_parts _ _ rule).0

  pub only_row : (kind : Kind) (r : Row) (key : List ℕ) (n : ℤ) → AreNumbered (db (entry_tree kind)) → Has (db (entry_tree kind)) r → has_key key r ≡ true → rowid r ≡ Int n → filter (has_rowid n) (db (entry_tree kind)) ≡ r ∷ []
      → filter (has_key key) (db (entry_tree kind)) ≡ r ∷ []
  only_row kind r key n numbered there keyed number alone =
      filter_same (has_key key) (has_rowid n) (db (entry_tree kind)) (all_from (λ x. has_key key x ≡ has_rowid n x) (db (entry_tree kind)) (λ x here. elim (cases_Bool (has_rowid n x)) [
        | inl has ↦
            let same : x ≡ r = numbered_one (db (entry_tree kind)) r x n numbered there number here has in
            ap (has_key key) same ∙ keyed ∙ sym has
        | inr other ↦ elim (cases_Bool (has_key key x)) [
          | inl also ↦
              let its = numbered x here in
              let apart : int_eq its.0 n ≡ false = sym (rowid_is x its.0 n its.1) ∙ other in
              let clash = two_clash (order_of f kind) (db (entry_tree kind)) r x key n its.0 here (text_of_key (column r 1) key keyed) (text_of_key (column x 1) key also) number its.1 apart in
              absurd (let none = unclashed kind r there in cc)
          | inr lacks ↦ lacks ∙ sym other
        ]
      ])) ∙ alone

  -- the row of a record that has an entry
  pub held_row : (name : RecordName) (e : Entry) → HasNumbers db → get (entries_in db) name ≡ Some e → (at : IsThere db name) × (entry_in name.kind (shown_row name.kind at.row) ≡ Some e) × (row_name e.row ≡ name)
  held_row name e numbers is =
      let it = stands_some db name e is in
      let r = it.0.row in
      let keyed = has_own_key name.kind r e name it.0.shows it.1 in
      let numbered = numbers_of name.kind db numbers in
      let number = numbered r it.0.there in (
        record {
          row = r;
          number = number.0;
          numbered = number.1;
          keyed = text_of_key (column r 1) name.key keyed;
          only = only_row name.kind r name.key number.0 numbered it.0.there keyed number.1 number.2;
        },
        it.0.shows,
        it.1,
      )
