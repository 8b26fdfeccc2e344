-- A table is what its fields say.
use Rattle.std.proofs.Common.{◌≡◌, ℕ, Some, List, [], ◌∷◌, codes, refl, ◌∙◌}
use Rattle.sqlite_schema.specs.declared.schema.Table.{Table}
use Rattle.sqlite_schema.specs.declared.schema.Kind.TheVariants.{Integer}
use Rattle.sql_tables.specs.Layouts.{IsPlainTable, format_table, format_tree, optional, required}

pub format_fields : (name : List ℕ) (table : Table) → table.name ≡ name → table.tree ≡ format_tree → table.columns ≡ optional (codes "one") Integer ∷ required (codes "number") Integer ∷ [] → table.key ≡ Some 0 → table.primary ≡ 0 ∷ [] → table.uniques ≡ [] → table.orders ≡ []
    → IsPlainTable table → table ≡ format_table name table.checks
format_fields called table name tree columns key primary uniques orders plain =
    let same : table ≡ record {
      name = table.name;
      tree = table.tree;
      columns = table.columns;
      key = table.key;
      primary = table.primary;
      uniques = table.uniques;
      orders = table.orders;
      checks = table.checks;
      references = table.references;
      computed = table.computed;
      stamps = table.stamps;
      is_counted = table.is_counted;
    } = refl in
    same ∙ rw (name, tree, columns, key, primary, uniques, orders, plain.references, plain.computed, plain.stamps, plain.uncounted) refl
