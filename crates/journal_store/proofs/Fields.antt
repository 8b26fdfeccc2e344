-- A table is what its fields say.
use Rattle.std.proofs.Common.{◌≡◌, ℕ, List, [], ◌∷◌, refl, ◌∙◌}
use Rattle.sqlite_schema.specs.declared.schema.Column.{Column}
use Rattle.sqlite_schema.specs.declared.schema.Index.{Index}
use Rattle.sqlite_schema.specs.declared.schema.Schema.{Schema}
use Rattle.sqlite_schema.specs.declared.schema.Table.{Table}
use Rattle.journal_store.specs.Tables.{EntryTable, format_name, keyed_index, keyed_table}
use Rattle.journal_store.specs.Older.Format.{first_groups, first_users, second_users}
use Rattle.journal_store.specs.Format.{third_groups, third_users}
use Rattle.sql_tables.specs.Layouts.{format_table}
use Rattle.journal_store.specs.Opening.{IsEntryTable, IsFirst, IsJournal, IsKeyedTable, IsSecond}

table_fields : (name : List ℕ) (tree : ℕ) (columns : List Column) (table : Table) (keys : Index) → IsEntryTable name tree columns table → table.orders ≡ keys.order ∷ [] → table ≡ keyed_table name tree columns keys.order
table_fields name tree columns table keys it orders =
    let same : table ≡ record {
      name = table.name;
      tree = table.tree;
      columns = table.columns;
      key = table.key;
      primary = table.primary;
      uniques = table.uniques;
      orders = table.orders;
      checks = table.checks;
      references = table.references;
      computed = table.computed;
      stamps = table.stamps;
      is_counted = table.is_counted;
    } = refl in
    same ∙ rw (it.name_is, it.tree_is, it.columns_are, it.keyed.key, it.keyed.primary, it.keyed.uniques, orders, it.keyed.checks, it.keyed.plain.references, it.keyed.plain.computed, it.keyed.plain.stamps, it.keyed.plain.uncounted) refl

-- the table, and the index of its keys
pub keyed : (it : EntryTable) (table : Table) (keys : Index) → IsEntryTable it.name it.tree it.columns table → keys ≡ keyed_index it.index it.tree keys.order → table.orders ≡ keys.order ∷ [] → IsKeyedTable it table keys
keyed it table keys entries is orders = (table_fields it.name it.tree it.columns table keys entries orders, is)

module _ (schema : Schema) (views : schema.views ≡ []) (format : Table) (is_format : format ≡ format_table format_name format.checks) where
  -- the tables and the indexes are the schema of the format
  pub journal_fields : (firsts old_groups seconds users groups : Table) (first_keys old_group_keys second_keys user_keys group_keys : Index)
      → schema.tables ≡ format ∷ firsts ∷ old_groups ∷ seconds ∷ users ∷ groups ∷ [] → schema.indexes ≡ first_keys ∷ old_group_keys ∷ second_keys ∷ user_keys ∷ group_keys ∷ []
      → IsKeyedTable first_users firsts first_keys → IsKeyedTable first_groups old_groups old_group_keys → IsKeyedTable second_users seconds second_keys
      → IsKeyedTable third_users users user_keys → IsKeyedTable third_groups groups group_keys → IsJournal schema
  journal_fields firsts old_groups seconds users groups first_keys old_group_keys second_keys user_keys group_keys tables indexes is_firsts is_first_groups is_seconds is_users is_groups = record {
    form = record {
      second = record { first = record { format_checks = format.checks; users = first_keys.order; groups = old_group_keys.order }; users = second_keys.order };
      users = user_keys.order;
      groups = group_keys.order;
    };
    is =
        let same : schema ≡ record { tables = schema.tables; indexes = schema.indexes; views = schema.views } = refl in
        same ∙ rw (tables, indexes, views) (λ i. record {
          tables = is_format i ∷ is_firsts.0 i ∷ is_first_groups.0 i ∷ is_seconds.0 i ∷ is_users.0 i ∷ is_groups.0 i ∷ [];
          indexes = is_firsts.1 i ∷ is_first_groups.1 i ∷ is_seconds.1 i ∷ is_users.1 i ∷ is_groups.1 i ∷ [];
          views = [];
        });
  }

  -- the same of the second format
  pub second_fields : (firsts groups users : Table) (first_keys group_keys user_keys : Index) → schema.tables ≡ format ∷ firsts ∷ groups ∷ users ∷ [] → schema.indexes ≡ first_keys ∷ group_keys ∷ user_keys ∷ []
      → IsKeyedTable first_users firsts first_keys → IsKeyedTable first_groups groups group_keys → IsKeyedTable second_users users user_keys → IsSecond schema
  second_fields firsts groups users first_keys group_keys user_keys tables indexes is_firsts is_groups is_users = record {
    form = record { first = record { format_checks = format.checks; users = first_keys.order; groups = group_keys.order }; users = user_keys.order };
    is =
        let same : schema ≡ record { tables = schema.tables; indexes = schema.indexes; views = schema.views } = refl in
        same ∙ rw (tables, indexes, views) (λ i. record {
          tables = is_format i ∷ is_firsts.0 i ∷ is_groups.0 i ∷ is_users.0 i ∷ [];
          indexes = is_firsts.1 i ∷ is_groups.1 i ∷ is_users.1 i ∷ [];
          views = [];
        });
  }

  -- the same of the first format
  pub first_fields : (users groups : Table) (user_keys group_keys : Index) → schema.tables ≡ format ∷ users ∷ groups ∷ [] → schema.indexes ≡ user_keys ∷ group_keys ∷ []
      → IsKeyedTable first_users users user_keys → IsKeyedTable first_groups groups group_keys → IsFirst schema
  first_fields users groups user_keys group_keys tables indexes is_users is_groups = record {
    form = record { format_checks = format.checks; users = user_keys.order; groups = group_keys.order };
    is =
        let same : schema ≡ record { tables = schema.tables; indexes = schema.indexes; views = schema.views } = refl in
        same ∙ rw (tables, indexes, views) (λ i. record {
          tables = is_format i ∷ is_users.0 i ∷ is_groups.0 i ∷ [];
          indexes = is_users.1 i ∷ is_groups.1 i ∷ [];
          views = [];
        });
  }
