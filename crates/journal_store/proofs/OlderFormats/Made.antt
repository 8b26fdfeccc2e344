-- What the statements leave that make the tables of the first format.
use Rattle.std.proofs.Common.{◌≡◌, ℕ, pos, [], ◌∷◌, map, Ok, refl, sym, ap, ◌∙◌, subst, arith, IsPermutation}
use Rattle.std.specs.FinMap.{empty}
use Rattle.std.specs.List.Sorted.{IsStrictlySortedBy}
use Rattle.std.proofs.lemmas.List.Sorted.{IsPermutation-refl}
use Rattle.sqlite_value.specs.declared.value.Value.TheVariants.{Int}
use Rattle.sqlite_value.specs.Order.{Row, column}
use Rattle.sqlite_trees.specs.Tree.{Trees}
use Rattle.sqlite.specs.State.{State, Executes}
use Rattle.scim_key.specs.declared.records.Kind.{Kind}
use Rattle.scim_key.specs.declared.records.Kind.TheVariants.{User, Group}
use Rattle.sql_tables.specs.Layouts.{format_schema, format_table, no_schema}
use Rattle.sql_tables.proofs.Making.{creates, marks}
use Rattle.journal_store.specs.Batches.{settled}
use Rattle.journal_store.specs.Connections.{AreNumbered, HasNumbersBy, ListsAllBy, Shows}
use Rattle.journal_store.specs.Older.Format.{create_first_text, first_groups, first_number, first_tree, first_users, format_text, mark_text}
use Rattle.journal_store.specs.Tables.{format_name, table_of}
use Rattle.journal_store.specs.Older.Formats.{first_format}
use Rattle.journal_store.specs.Opening.{HoldsEntriesBy, IsFirstStore}
use Rattle.journal_store.specs.Rows.{entries_by}
use Rattle.journal_store.specs.Older.Rows.{first_row}
use Rattle.journal_store.proofs.OlderFormats.MakingTexts.{format_made, groups_created, groups_made, mark_is, users_created, users_made, users_schema}

-- ---- tables without rows

none_in : (db : Trees) → db 1 ≡ [] → db 3 ≡ [] → entries_by first_tree first_row db ≡ empty
unfolding entries_by
none_in db users groups = rw (users, groups) refl

lists_none : (kind : Kind) (db : Trees) → db (first_tree kind) ≡ [] → ListsAllBy (Shows kind) (first_row kind) (db (first_tree kind)) []
unfolding IsStrictlySortedBy
lists_none kind db none = record {
  rows = [];
  all = subst (λ table. IsPermutation (map (first_row kind) table) []) (sym none) (IsPermutation-refl []);
  shown = record { each = tt; rising = tt };
}

numbers_none : (db : Trees) → db 1 ≡ [] → db 3 ≡ [] → HasNumbersBy first_tree db
numbers_none db users groups = record {
  users = subst AreNumbered (sym users) (λ r there. absurd there);
  groups = subst AreNumbered (sym groups) (λ r there. absurd there);
}

holds_none : (db : Trees) → db 1 ≡ [] → db 3 ≡ [] → HoldsEntriesBy first_format db
holds_none db users groups = record {
  users = [];
  groups = [];
  all_users = lists_none User db users;
  all_groups = lists_none Group db groups;
  lawful = record { few_users = omega arith; few_groups = omega arith; identified_users = refl; identified_groups = refl; members = tt };
}

-- ---- the four statements

-- the tables are there: the one of the format with its number, the others empty
pub first_made : (b m1 m2 m3 m4 : State) (n1 n2 n3 n4 : ℕ) → b.now.schema ≡ no_schema → Executes format_text [] b m1 (Ok n1) → Executes mark_text (Int (pos first_number) ∷ []) m1 m2 (Ok n2)
    → Executes (create_first_text User) [] m2 m3 (Ok n3) → Executes (create_first_text Group) [] m3 m4 (Ok n4) → IsFirstStore (settled m4) empty
first_made b m1 m2 m3 m4 n1 n2 n3 n4 blank one two three four =
    let a = format_made.0 in
    let first = creates format_text no_schema (format_table format_name a) b m1 n1 format_made.1 refl blank one in
    let second = marks format_name mark_text a m1 m2 (pos first_number) n2 (mark_is a) first.0 first.1 two in
    let u = users_made a in
    let third = creates (create_first_text User) (format_schema format_name a) (record (table_of first_users u.0) { tree = 0 }) m2 m3 n3 u.1 refl second.0 three in
    let g = groups_made a u.0 in
    let fourth = creates (create_first_text Group) (users_schema a u.0) (record (table_of first_groups g.0) { tree = 0 }) m3 m4 n4 g.1 refl (third.0 ∙ users_created a u.0) four in
    let users : m4.now.trees 1 ≡ [] = fourth.2.1.0 ∙ third.1 in
    let groups : m4.now.trees 3 ≡ [] = fourth.1 in
    record {
      laid = record { form = record { format_checks = a; users = u.0; groups = g.0 }; schema = fourth.0 ∙ groups_created a u.0 g.0; committed = refl; autocommit = refl };
      format = ap (map (λ (r : Row). column r 2)) (fourth.2.0 ∙ third.2.0 ∙ second.1);
      numbers = numbers_none m4.now.trees users groups;
      holds = holds_none m4.now.trees users groups;
      are = none_in m4.now.trees users groups;
    }
