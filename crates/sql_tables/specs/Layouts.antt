-- How the tables of a store are laid out, and the row that has the number of their format.
use Rattle.std.specs.Prelude.{◌≡◌, ◌<◌, ◌≤◌, ℕ, pos, true, false, List, [], ◌∷◌, Some, codes, map}
use Rattle.sqlite_value.specs.declared.keys.Collation.TheVariants.{Binary}
use Rattle.sqlite_value.specs.declared.value.Value.TheVariants.{Null, Int}
use Rattle.sqlite_value.specs.Order.{Row, column}
use Rattle.sqlite_sql.specs.Term.{Term}
use Rattle.sqlite_schema.specs.declared.schema.Column.{Column}
use Rattle.sqlite_schema.specs.declared.schema.Stamps.{Stamps}
use Rattle.sqlite_schema.specs.declared.schema.Table.{Table}
use Rattle.sqlite_schema.specs.declared.schema.Schema.{Schema}
use Rattle.sqlite_schema.specs.declared.schema.Kind.{Kind}
use Rattle.sqlite_schema.specs.declared.schema.Kind.TheVariants.{Integer}
use Rattle.sqlite.specs.State.{State}
use Rattle.sql_tables.specs.declared.marks.Mark.{Mark}
use Rattle.sql_tables.specs.declared.marks.Mark.TheVariants.{Own, Newer, Unmarked}

-- ---- columns

abbrev pub required : List ℕ → Kind → Column
required name kind =
    record { name = name; kind = kind; is_strict = false; not_null = true; default = Null; collation = Binary }

abbrev pub optional : List ℕ → Kind → Column
optional name kind =
    record { name = name; kind = kind; is_strict = false; not_null = false; default = Null; collation = Binary }

-- ---- tables

abbrev pub no_stamps : Stamps
no_stamps = record { places = []; terms = []; formats = [] }

-- nothing is declared for the table except its columns, its keys and its CHECKs
pub record IsPlainTable (table : Table) : Type 0 where
  pub references : table.references ≡ []
  pub computed : table.computed ≡ []
  pub stamps : table.stamps ≡ no_stamps
  pub uncounted : table.is_counted ≡ false

abbrev pub format_tree : ℕ
format_tree = 0

-- the table of this name that has the number of the format, which is the first table of a store
abbrev pub format_table : List ℕ → List Term → Table
format_table name checks = record {
  name = name;
  tree = format_tree;
  columns = optional (codes "one") Integer ∷ required (codes "number") Integer ∷ [];
  key = Some 0;
  primary = 0 ∷ [];
  uniques = [];
  orders = [];
  checks = checks;
  references = [];
  computed = [];
  stamps = no_stamps;
  is_counted = false;
}

-- a store right after this table is made
abbrev pub format_schema : List ℕ → List Term → Schema
format_schema name checks = record { tables = format_table name checks ∷ []; indexes = []; views = [] }

abbrev pub no_schema : Schema
no_schema = record { tables = []; indexes = []; views = [] }

-- ---- layouts

-- A layout is a schema for each form: a form has what SQLite chooses, as the terms of a CHECK and the order of an
-- index. The schema is one of the layout
pub record IsOne {Form : Type 0} (layout : Form → Schema) (schema : Schema) : Type 0 where
  pub form : Form
  pub is : schema ≡ layout form

-- the tables are laid out, and no transaction is open
pub record IsLaid {Form : Type 0} (layout : Form → Schema) (s : State) : Type 0 where
  pub form : Form
  pub schema : s.now.schema ≡ layout form
  pub committed : s.committed ≡ s.now
  pub autocommit : s.in_transaction ≡ false

-- there are no tables, and no transaction is open
pub record IsBlank (s : State) : Type 0 where
  pub schema : s.now.schema ≡ no_schema
  pub committed : s.committed ≡ s.now
  pub autocommit : s.in_transaction ≡ false

-- ---- the number of the format

-- the table of the format has one row, with this number
abbrev pub IsFormat : State → ℕ → Type 0
IsFormat s number = map (λ (r : Row). column r 2) (s.now.trees format_tree) ≡ Int (pos number) ∷ []

-- the result shows only this number
abbrev pub IsMarked : List Row → ℕ → Type 0
IsMarked rows number = (r : Row) × (rows ≡ r ∷ []) × (column r 0 ≡ Int (pos number))

-- what the number that is shown means for the format with this number: it is its own, a newer one, or neither
abbrev pub IsMark : (shows : ℕ → Type 0) → (own : ℕ) → Mark → Type 0
IsMark shows own Own = shows own
IsMark shows own Newer = (number : ℕ) × (own < number) × shows number
IsMark shows own Unmarked = (number : ℕ) → own ≤ number → shows number → ⊥
