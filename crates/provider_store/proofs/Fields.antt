-- A list of known length is the list of its items, and a table is what its fields say.
use Rattle.std.proofs.Common.{◌≡◌, [], ◌∷◌, refl, ◌∙◌}
use Rattle.sqlite_value.specs.declared.keys.Order.{Order}
use Rattle.sqlite_schema.specs.declared.schema.Index.{Index}
use Rattle.sqlite_schema.specs.declared.schema.Schema.{Schema}
use Rattle.sqlite_schema.specs.declared.schema.Table.{Table}
use Rattle.provider_store.specs.Format.{format_name, name_index, resource_table}
use Rattle.provider_store.specs.Opening.{IsProvider, IsResourceTable}
use Rattle.sql_tables.specs.Layouts.{format_table}

pub resource_fields : (table : Table) (order : Order) → IsResourceTable table → table.orders ≡ order ∷ [] → table ≡ resource_table table.checks order
resource_fields table order it orders =
    let same : table ≡ record {
      name = table.name;
      tree = table.tree;
      columns = table.columns;
      key = table.key;
      primary = table.primary;
      uniques = table.uniques;
      orders = table.orders;
      checks = table.checks;
      references = table.references;
      computed = table.computed;
      stamps = table.stamps;
      is_counted = table.is_counted;
    } = refl in
    same ∙ rw (it.name, it.tree, it.columns, it.key, it.primary, it.uniques, orders, it.plain.references, it.plain.computed, it.plain.stamps, it.plain.uncounted) refl

-- the two tables and the index are the schema of the format
pub provider_fields : (schema : Schema) (format resource : Table) (index : Index) → schema.tables ≡ format ∷ resource ∷ [] → schema.indexes ≡ index ∷ [] → schema.views ≡ []
    → format ≡ format_table format_name format.checks → IsResourceTable resource → index ≡ name_index index.order → resource.orders ≡ index.order ∷ [] → IsProvider schema
provider_fields schema format resource index tables indexes views is_format is_resource is_index orders = record {
  form = record { format_checks = format.checks; resource_checks = resource.checks; order = index.order };
  is =
      let same : schema ≡ record { tables = schema.tables; indexes = schema.indexes; views = schema.views } = refl in
      same ∙ rw (tables, indexes, views) (λ i. record { tables = is_format i ∷ resource_fields resource index.order is_resource orders i ∷ []; indexes = is_index i ∷ []; views = [] });
}
