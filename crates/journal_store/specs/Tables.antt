-- A table of entries, as SQLite keeps it, in any format.
use denote.Ref.{Bor}
use Rattle.std.specs.Prelude.{ℕ, zero, suc, Bool, true, false, List, [], ◌∷◌, None, codes}
use Rattle.sqlite_value.specs.declared.keys.Order.{Order}
use Rattle.sqlite_schema.specs.declared.schema.Column.{Column}
use Rattle.sqlite_schema.specs.declared.schema.Table.{Table}
use Rattle.sqlite_schema.specs.declared.schema.Index.{Index}
use Rattle.sqlite_schema.specs.declared.schema.Kind.{Kind as ColumnKind}
use Rattle.sql_tables.specs.Layouts.{no_stamps}
use Rattle.sqlite_value.specs.declared.keys.Collation.TheVariants.{Binary}
use Rattle.sqlite_value.specs.declared.value.Value.TheVariants.{Null}

-- a column of a table, as SQLite keeps it
abbrev pub EntryColumn : Type 0
EntryColumn = Bor (List ℕ) × ColumnKind × Bool

abbrev pub column_of : EntryColumn → Column
column_of c =
    record { name = c.0.now; kind = c.1; is_strict = false; not_null = c.2; default = Null; collation = Binary }

-- the name of the table of the format
abbrev pub format_name : List ℕ
format_name = codes "journal_format"

-- a table of entries: its name, the name of the index of its keys, its tree, and its columns
pub record EntryTable : Type 0 where
  pub name : List ℕ
  pub index : List ℕ
  pub tree : ℕ
  pub columns : List Column

-- so many places, from this one on
abbrev pub places : ℕ → ℕ → List ℕ
places at zero = []
places at (suc count) = at ∷ places (suc at) count

-- the place of the key, by which rows are found
abbrev pub key_places : List ℕ
key_places = 1 ∷ []

-- a table of entries with this name, tree and columns
abbrev pub keyed_table : (name : List ℕ) (tree : ℕ) (columns : List Column) → Order → Table
keyed_table name tree columns order = record {
  name = name;
  tree = tree;
  columns = columns;
  key = None;
  primary = key_places;
  uniques = key_places ∷ [];
  orders = order ∷ [];
  checks = [];
  references = [];
  computed = [];
  stamps = no_stamps;
  is_counted = false;
}

-- the index of the keys of the table in this tree: its tree is the next one
abbrev pub keyed_index : (name : List ℕ) (tree : ℕ) → Order → Index
keyed_index name tree order =
    record { name = name; tree = suc tree; table = tree; columns = key_places; order = order; is_unique = true }

-- the table of entries, as SQLite keeps it, and the index of its keys
abbrev pub table_of : EntryTable → Order → Table
table_of table = keyed_table table.name table.tree table.columns

abbrev pub index_of : EntryTable → Order → Index
index_of table = keyed_index table.index table.tree
