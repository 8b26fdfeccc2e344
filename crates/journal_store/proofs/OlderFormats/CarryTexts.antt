-- What the statements mean that carry a journal over.
use Rattle.std.proofs.Common.{◌≡◌, ℕ, pos, List, [], ◌∷◌, ◌++◌, map, refl}
use Rattle.sqlite_value.specs.declared.keys.Order.{Order}
use Rattle.sqlite_value.specs.declared.value.Value.TheVariants.{Null, Int, Text}
use Rattle.sqlite_sql.specs.Term.{Term, lit, col, op2}
use Rattle.sqlite_sql.specs.declared.ops.BinaryOp.TheVariants.{Compare}
use Rattle.sqlite_sql.specs.declared.ops.CompareOp.TheVariants.{Le}
use Rattle.sqlite_value.specs.declared.keys.Collation.TheVariants.{Binary}
use Rattle.sqlite_schema.specs.declared.schema.Schema.{Schema}
use Rattle.sqlite_catalog.specs.Change.{created}
use Rattle.sqlite_tied.specs.Compute.{everything}
use Rattle.sqlite.specs.Listing.{understood}
use Rattle.scim_key.specs.declared.records.Kind.{Kind}
use Rattle.scim_key.specs.declared.records.Kind.TheVariants.{User, Group}
use Rattle.sql_tables.specs.Layouts.{format_table}
use Rattle.sql_tables.proofs.Editing.{IsWrite}
use Rattle.sql_tables.proofs.Making.{IsTable}
use Rattle.journal_store.specs.Older.Carrying.{moved_from}
use Rattle.journal_store.specs.Older.Format.{FirstForm, SecondForm, copy_part_text, copy_text, create_second_text, empty_part_text, empty_text, first_groups, first_schema, first_users, remark_text, second_count, second_schema, second_users}
use Rattle.journal_store.specs.Format.{Form, create_text, journal_schema, third_groups, third_users}
use Rattle.journal_store.specs.Tables.{format_name, index_of, places, table_of}
use Rattle.journal_store.specs.declared.older.moving.Moved.{Moved}
use Rattle.journal_store.specs.declared.older.moving.Moved.TheVariants.{FirstUsers, SecondGroups, SecondUsers}
use Rattle.journal_store.proofs.OlderFormats.Carrying.{HasNoKeys, copy_command, empty_command, number_command}

-- ---- from the first format to the second one

pub second_made : (f : FirstForm) → (order : Order) × IsTable create_second_text (first_schema f) (record (table_of second_users order) { tree = 0 })
unfolding understood everything
second_made f = (_, (refl, refl, (refl, refl), refl))

pub second_created : (f : FirstForm) (o : Order) → created (first_schema f) (record (table_of second_users o) { tree = 0 }) ≡ second_schema (record { first = f; users = o })
unfolding everything
second_created f o = refl

pub second_alone : (f : SecondForm) → HasNoKeys (second_schema f)
second_alone f tree olds news = refl

pub remark_second_is : IsWrite second_schema remark_text number_command
unfolding understood everything
remark_second_is = record { means = λ f. refl; plain = λ f. (refl, refl) }

-- ---- from the second format to the current one

-- the schema before the last table
abbrev pub users_schema : SecondForm → Order → Schema
users_schema form users =
    record {
      tables =
          format_table format_name form.first.format_checks ∷ table_of first_users form.first.users ∷ table_of first_groups form.first.groups
          ∷ table_of second_users form.users ∷ table_of third_users users ∷ [];
      indexes =
          index_of first_users form.first.users ∷ index_of first_groups form.first.groups ∷ index_of second_users form.users ∷ index_of third_users users ∷ [];
      views = [];
    }

pub users_made : (f : SecondForm) → (order : Order) × IsTable (create_text User) (second_schema f) (record (table_of third_users order) { tree = 0 })
unfolding understood everything
users_made f = (_, (refl, refl, (refl, refl), refl))

pub users_created : (f : SecondForm) (o : Order) → created (second_schema f) (record (table_of third_users o) { tree = 0 }) ≡ users_schema f o
unfolding everything
users_created f o = refl

pub groups_made : (f : SecondForm) (o : Order) → (order : Order) × IsTable (create_text Group) (users_schema f o) (record (table_of third_groups order) { tree = 0 })
unfolding understood everything
groups_made f o = (_, (refl, refl, (refl, refl), refl))

pub groups_created : (f : SecondForm) (o p : Order) → created (users_schema f o) (record (table_of third_groups p) { tree = 0 }) ≡ journal_schema (record { second = f; users = o; groups = p })
unfolding everything
groups_created f o p = refl

pub remark_is : IsWrite journal_schema remark_text number_command
unfolding understood everything
remark_is = record { means = λ f. refl; plain = λ f. (refl, refl) }

pub journal_alone : (f : Form) → HasNoKeys (journal_schema f)
journal_alone f tree olds news = refl

-- ---- the rows of a table are moved

-- the forms of the schema that has both tables
abbrev pub FormOf : Moved → Type 0
FormOf FirstUsers = SecondForm
FormOf SecondUsers = Form
FormOf SecondGroups = Form

abbrev pub layout_of : (table : Moved) → FormOf table → Schema
layout_of FirstUsers = second_schema
layout_of SecondUsers = journal_schema
layout_of SecondGroups = journal_schema

-- the places of both tables among the tables
abbrev pub from_place : Moved → ℕ
from_place FirstUsers = 1
from_place SecondUsers = 3
from_place SecondGroups = 2

abbrev pub into_place : Moved → ℕ
into_place FirstUsers = 3
into_place SecondUsers = 4
into_place SecondGroups = 5

-- the columns of an entry of the second format, with epochs of 0
abbrev second_terms : Kind → List Term
second_terms kind = lit Null ∷ (map (col 1) (places 1 (second_count kind)) ++ lit (Int (pos 0)) ∷ lit (Int (pos 0)) ∷ [])

-- the columns of a row that is moved: those of a user of the first format, with an empty department, among them
abbrev pub copy_terms : Moved → List Term
copy_terms FirstUsers = lit Null ∷ (map (col 1) (places 1 7) ++ lit (Text []) ∷ map (col 1) (places 8 3))
copy_terms SecondUsers = second_terms User
copy_terms SecondGroups = second_terms Group

-- the number of the row is at most the parameter
abbrev pub part_tests : List Term
part_tests = op2 (Compare Le Binary) (col 1 0) (col 0 0) ∷ []

-- the texts copy the rows that pass the tests, and delete them
pub record AreMoving (table : Moved) (tests : List Term) (copy drop : List ℕ) : Type 0 where
  pub copies : IsWrite (layout_of table) copy (copy_command (into_place table) (moved_from table) tests (copy_terms table))
  pub empties : IsWrite (layout_of table) drop (empty_command (from_place table) (moved_from table) tests)

pub part_is : (table : Moved) → AreMoving table part_tests (copy_part_text table) (empty_part_text table)
unfolding understood everything
part_is FirstUsers = record { copies = record { means = λ f. refl; plain = λ f. (refl, refl) }; empties = record { means = λ f. refl; plain = λ f. (refl, refl) } }
part_is SecondUsers = record { copies = record { means = λ f. refl; plain = λ f. (refl, refl) }; empties = record { means = λ f. refl; plain = λ f. (refl, refl) } }
part_is SecondGroups = record { copies = record { means = λ f. refl; plain = λ f. (refl, refl) }; empties = record { means = λ f. refl; plain = λ f. (refl, refl) } }

pub rest_is : (table : Moved) → AreMoving table [] (copy_text table) (empty_text table)
unfolding understood everything
rest_is FirstUsers = record { copies = record { means = λ f. refl; plain = λ f. (refl, refl) }; empties = record { means = λ f. refl; plain = λ f. (refl, refl) } }
rest_is SecondUsers = record { copies = record { means = λ f. refl; plain = λ f. (refl, refl) }; empties = record { means = λ f. refl; plain = λ f. (refl, refl) } }
rest_is SecondGroups = record { copies = record { means = λ f. refl; plain = λ f. (refl, refl) }; empties = record { means = λ f. refl; plain = λ f. (refl, refl) } }
