-- The tables of format 1, as SQLite keeps them.
use Rattle.std.specs.Prelude.{ℕ, true, false, List, [], ◌∷◌, Some, codes}
use Rattle.sqlite_value.specs.declared.keys.Order.{Order}
use Rattle.sqlite_sql.specs.Term.{Term}
use Rattle.sqlite_schema.specs.declared.schema.Column.{Column}
use Rattle.sqlite_schema.specs.declared.schema.Table.{Table}
use Rattle.sqlite_schema.specs.declared.schema.Index.{Index}
use Rattle.sqlite_schema.specs.declared.schema.Schema.{Schema}
use Rattle.sqlite_schema.specs.declared.schema.Kind.TheVariants.{Integer, Text}
use Rattle.sql_tables.specs.Layouts.{format_table, no_stamps, optional, required}

-- the number of the format
abbrev pub format_number : ℕ
format_number = 1

-- ---- tables

-- the name of the table of the format
abbrev pub format_name : List ℕ
format_name = codes "provider_format"

abbrev pub resource_tree : ℕ
resource_tree = 1

abbrev pub name_tree : ℕ
name_tree = 2

-- the places of kind and key, by which rows are found
abbrev pub name_places : List ℕ
name_places = 2 ∷ 3 ∷ []

abbrev pub resource_columns : List Column
resource_columns =
    optional (codes "number") Integer ∷ required (codes "kind") Integer
    ∷ required (codes "name_key") Text ∷ required (codes "version") Integer ∷ required (codes "content") Text ∷ []

abbrev pub resource_table : List Term → Order → Table
resource_table checks order = record {
  name = codes "resource";
  tree = resource_tree;
  columns = resource_columns;
  key = Some 0;
  primary = 0 ∷ [];
  uniques = name_places ∷ [];
  orders = order ∷ [];
  checks = checks;
  references = [];
  computed = [];
  stamps = no_stamps;
  is_counted = false;
}

abbrev pub name_index : Order → Index
name_index order =
    record {
      name = codes "sqlite_autoindex_resource_1";
      tree = name_tree;
      table = resource_tree;
      columns = name_places;
      order = order;
      is_unique = true;
    }

-- what SQLite chooses of the tables: the terms of their CHECKs, and the order of the index
pub record Form : Type 0 where
  pub format_checks : List Term
  pub resource_checks : List Term
  pub order : Order

abbrev pub provider_schema : Form → Schema
provider_schema form =
    record {
      tables = format_table format_name form.format_checks
          ∷ resource_table form.resource_checks form.order ∷ [];
      indexes = name_index form.order ∷ [];
      views = [];
    }

-- ---- statements

abbrev pub format_text : List ℕ
format_text =
    codes "CREATE TABLE IF NOT EXISTS provider_format (one INTEGER PRIMARY KEY CHECK (one = 1), number INTEGER NOT NULL)"

abbrev pub mark_text : List ℕ
mark_text = codes "INSERT INTO provider_format (one, number) VALUES (1, ?1)"

abbrev pub resource_text : List ℕ
resource_text =
    codes "CREATE TABLE resource (number INTEGER PRIMARY KEY CHECK (number >= 1), kind INTEGER NOT NULL CHECK (kind = 1 OR kind = 2), name_key TEXT NOT NULL, version INTEGER NOT NULL CHECK (version >= 1), content TEXT NOT NULL, UNIQUE (kind, name_key))"

abbrev pub insert_text : List ℕ
insert_text = codes "INSERT INTO resource (number, kind, name_key, version, content) VALUES (?1, ?2, ?3, ?4, ?5)"

abbrev pub update_text : List ℕ
update_text = codes "UPDATE resource SET version = ?2, content = ?3 WHERE number = ?1"

abbrev pub named_text : List ℕ
named_text = codes "SELECT number, kind, name_key, version, content FROM resource WHERE kind = ?1 AND name_key = ?2"

abbrev pub numbered_text : List ℕ
numbered_text = codes "SELECT number, kind, name_key, version, content FROM resource WHERE number = ?1"

-- the query for the rows with the numbers of a page
abbrev pub page_text : List ℕ
page_text = codes
    "SELECT number, kind, name_key, version, content FROM resource WHERE number >= ?1 AND number <= ?2 ORDER BY number"

abbrev pub marked_text : List ℕ
marked_text = codes "SELECT number FROM provider_format"

-- the query for numbers other than the first ones
abbrev pub outside_text : List ℕ
outside_text = codes "SELECT number FROM resource WHERE number < 1 OR number > ?1"

-- the query for rows without a number
abbrev pub unnumbered_text : List ℕ
unnumbered_text = codes "SELECT number FROM resource WHERE number IS NULL"
