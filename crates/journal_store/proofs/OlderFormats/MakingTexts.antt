-- The tables of the first format that the texts define.
use Rattle.std.proofs.Common.{◌≡◌, List, [], ◌∷◌, refl}
use Rattle.sqlite_value.specs.declared.keys.Order.{Order}
use Rattle.sqlite_sql.specs.Term.{Term}
use Rattle.sqlite_schema.specs.declared.schema.Schema.{Schema}
use Rattle.sqlite_catalog.specs.Change.{created}
use Rattle.sqlite_tied.specs.Compute.{everything}
use Rattle.sqlite.specs.Listing.{understood}
use Rattle.scim_key.specs.declared.records.Kind.TheVariants.{User, Group}
use Rattle.sql_tables.specs.Layouts.{format_schema, format_table, no_schema}
use Rattle.sql_tables.proofs.Making.{IsMarkText, IsTable}
use Rattle.journal_store.specs.Older.Format.{create_first_text, first_groups, first_schema, first_users, format_text, mark_text}
use Rattle.journal_store.specs.Tables.{format_name, index_of, table_of}

-- ---- the texts

-- the schema before the last table
abbrev pub users_schema : List Term → Order → Schema
users_schema checks users = record { tables = format_table format_name checks ∷ table_of first_users users ∷ []; indexes = index_of first_users users ∷ []; views = [] }

pub format_made : (checks : List Term) × IsTable format_text no_schema (format_table format_name checks)
unfolding understood everything
format_made = (_, (refl, refl, (refl, refl), refl))

pub users_made : (a : List Term) → (order : Order) × IsTable (create_first_text User) (format_schema format_name a) (record (table_of first_users order) { tree = 0 })
unfolding understood everything
users_made a = (_, (refl, refl, (refl, refl), refl))

pub groups_made : (a : List Term) (o : Order) → (order : Order) × IsTable (create_first_text Group) (users_schema a o) (record (table_of first_groups order) { tree = 0 })
unfolding understood everything
groups_made a o = (_, (refl, refl, (refl, refl), refl))

-- with the tables of the entries the schema is that of the first format
pub users_created : (a : List Term) (o : Order) → created (format_schema format_name a) (record (table_of first_users o) { tree = 0 }) ≡ users_schema a o
unfolding everything
users_created a o = refl

pub groups_created : (a : List Term) (o p : Order) → created (users_schema a o) (record (table_of first_groups p) { tree = 0 }) ≡ first_schema (record { format_checks = a; users = o; groups = p })
unfolding everything
groups_created a o p = refl

pub mark_is : (a : List Term) → IsMarkText mark_text (format_schema format_name a)
unfolding understood everything
mark_is a = (refl, (refl, refl))
