-- The tables that the texts define.
use Rattle.std.proofs.Common.{◌≡◌, List, refl}
use Rattle.sqlite_value.specs.declared.keys.Order.{Order}
use Rattle.sqlite_sql.specs.Term.{Term}
use Rattle.sqlite_catalog.specs.Change.{created}
use Rattle.sqlite_tied.specs.Compute.{everything}
use Rattle.sqlite.specs.Listing.{understood}
use Rattle.provider_store.specs.Format.{format_name, provider_schema, resource_table, format_text, mark_text, resource_text}
use Rattle.sql_tables.specs.Layouts.{format_schema, format_table, no_schema}
use Rattle.sql_tables.proofs.Making.{IsMarkText, IsTable}

pub format_made : (checks : List Term) × IsTable format_text no_schema (format_table format_name checks)
unfolding understood everything
format_made = (_, (refl, refl, (refl, refl), refl))

pub resource_made : (a : List Term) → (checks : List Term) × (order : Order) × IsTable resource_text (format_schema format_name a) (record (resource_table checks order) { tree = 0 })
unfolding understood everything
resource_made a = (_, _, (refl, refl, (refl, refl), refl))

-- with it the schema is that of the format
pub resource_schema : (a checks : List Term) (order : Order) → created (format_schema format_name a) (record (resource_table checks order) { tree = 0 }) ≡ provider_schema (record { format_checks = a; resource_checks = checks; order = order })
unfolding everything
resource_schema a checks order = refl

pub mark_is : (a : List Term) → IsMarkText mark_text (format_schema format_name a)
unfolding understood everything
mark_is a = (refl, (refl, refl))
