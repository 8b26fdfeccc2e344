-- What the statements require of a connection, and what they leave of it.
use Rattle.std.specs.Prelude.{◌≡◌, ◌≢◌, ◌<◌, ◌≤◌, ◌+◌, ◌&&◌, ℕ, suc, pos, Bool, false, List, [], ◌∷◌, Some, Ok, IsTrue, IsPermutation, IsSorted, filter, length, map, slice_get}
use Rattle.std.specs.Ordering.{is_ge, is_le}
use Rattle.sqlite_value.specs.declared.value.Value.{Value}
use Rattle.sqlite_value.specs.declared.value.Value.TheVariants.{Null, Int}
use Rattle.sqlite_value.specs.Order.{Row, column, value_cmp}
use Rattle.sqlite_trees.specs.Tree.{has_rowid, put_row, rowid, without_rowid}
use Rattle.sqlite_rules.specs.Lists.{Has}
use Rattle.sqlite.specs.State.{State}
use Rattle.sqlite_trees.specs.Tree.{Trees}
use Rattle.serde_json.specs.Written.{compact_text}
use Rattle.scim_resource.specs.Writing.{content_data}
use Rattle.scim_resource.specs.Contents.{content_kind}
use Rattle.scim_resource.specs.Reading.{content_in}
use Rattle.scim_resource.specs.declared.contents.Content.{Content}
use Rattle.scim_key.specs.declared.records.RecordName.{RecordName}
use Rattle.scim_resource.specs.Contents.{content_name}
use Rattle.scim_resource.specs.Rows.{StoredRecord, IsStored}
use Rattle.sql_tables.specs.Layouts.{IsLaid as IsLaidBy}
use Rattle.provider_store.specs.Format.{provider_schema, resource_tree}
use Rattle.provider_store.specs.Rows.{shown_row, stored_row, IsRowOf}
use Rattle.provider_store.specs.Lawful.{has_name}
use Rattle.provider_store.specs.declared.tables.Found.{Found}
use Rattle.provider_store.specs.declared.tables.Found.TheVariants.{Nothing, Damaged, There}

-- ---- the tables of a connection

-- the tables are laid out, and no transaction is open
abbrev pub IsLaid : State → Type 0
IsLaid = IsLaidBy provider_schema

-- the rows of the resources
abbrev pub resources : State → List Row
resources s = s.now.trees resource_tree

-- ---- one resource

-- there are rows, but they aren't one row that shows a record
pub record AreDamaged (rows : List Row) : Type 0 where
  pub some : rows ≢ []
  pub unread : (r : Row) (s : StoredRecord) → rows ≡ r ∷ [] → IsRowOf (shown_row r) s → ⊥

-- the one row with this number
abbrev pub FindsNumber : List Row → ℕ → Found → Type 0
FindsNumber table number Nothing = filter (has_rowid (pos number)) table ≡ []
FindsNumber table number Damaged = AreDamaged (filter (has_rowid (pos number)) table)
FindsNumber table number (There s) = (r : Row) × (filter (has_rowid (pos number)) table ≡ r ∷ [])
    × IsRowOf (shown_row r) s

-- a row that shows a resource of this name
pub record IsNamed (table : List Row) (name : RecordName) (r : Row) (s : StoredRecord) : Type 0 where
  pub there : Has table r
  pub shows : IsRowOf (shown_row r) s
  pub named : content_name s.content ≡ name

-- the one row of this name
abbrev pub FindsName : List Row → RecordName → Found → Type 0
FindsName table name Nothing = filter (has_name name) table ≡ []
FindsName table name Damaged = AreDamaged (filter (has_name name) table)
FindsName table name (There s) = (r : Row) × (filter (has_name name) table ≡ r ∷ [])
    × IsRowOf (shown_row r) s × (content_name s.content ≡ name)

-- what a look-up found, given the rows of the result
abbrev pub IsOnly : List Row → Found → Type 0
IsOnly rows Nothing = rows ≡ []
IsOnly rows Damaged = (rows ≢ []) × ((r : Row) (s : StoredRecord) → rows ≡ r ∷ [] → IsRowOf r s → ⊥)
IsOnly rows (There s) = (r : Row) × (rows ≡ r ∷ []) × IsRowOf r s

-- ---- a page

-- the number is from the first one to the last one, as SQLite compares them; NULL, which no row has as its number,
-- isn't
abbrev pub is_between : ℕ → ℕ → Value → Bool
is_between first last Null = false
is_between first last v = is_ge (value_cmp v (Int (pos first))) && is_le (value_cmp v (Int (pos last)))

-- the rows with the numbers of a page, as the query shows them: in order of their numbers
pub record IsRange (table : List Row) (first last : ℕ) (rows : List Row) : Type 0 where
  pub same : IsPermutation (map shown_row (filter (λ r. is_between first last (rowid r)) table)) rows
  pub ordered : IsSorted (λ a b. value_cmp (column a 0) (column b 0)) rows

-- the rows show these records, one each, and the records are numbered from this number on
abbrev pub AreRowsFrom : ℕ → List Row → List StoredRecord → Type 0
AreRowsFrom number [] [] = Unit {0}
AreRowsFrom number (r ∷ rows) (s ∷ page) = IsRowOf r s × (s.number ≡ number) × AreRowsFrom (suc number) rows page
AreRowsFrom number rows page = ⊥

-- these records are those with the numbers above `after` and up to `last`: their numbers follow each other from the
-- next one on, each is in the only row with its number, and no row has a later number of the page
pub record HoldsPage (table : List Row) (after last : ℕ) (page : List StoredRecord) : Type 0 where
  pub each : (n : ℕ) (s : StoredRecord) → slice_get page n ≡ Some s → FindsNumber table (suc (after + n)) (There s)
  pub none : (n : ℕ) → after + length page < n → n ≤ last → FindsNumber table n Nothing

-- the rows with the numbers above `after` and up to `last` don't show records whose numbers follow each other from the
-- next one on
pub record IsBroken (table : List Row) (after last : ℕ) : Type 0 where
  pub rows : List Row
  pub range : IsRange table (suc after) last rows
  pub unread : (page : List StoredRecord) → AreRowsFrom (suc after) rows page → ⊥

-- ---- a write

-- the text of a content
abbrev pub content_text : Content → List ℕ
content_text content = compact_text (content_data content)

-- the text of the record's content is read as that content
abbrev pub IsSpelled : StoredRecord → Type 0
IsSpelled s = content_in (content_kind s.content) (content_text s.content) ≡ Ok s.content

-- the rows after the row of this record is added
abbrev pub added : StoredRecord → List Row → List Row
added s table = put_row (stored_row s (content_text s.content)) table

-- the rows after the row of this record replaces the one with its number
abbrev pub renewed : StoredRecord → List Row → List Row
renewed s table = put_row (stored_row s (content_text s.content)) (without_rowid (pos s.number) table)

-- the resources are now these, and committed
pub record Makes (old new : State) (s : StoredRecord) (later : List Row) : Type 0 where
  pub was_open : IsTrue old.is_open
  pub is_open : IsTrue new.is_open
  pub lawful : IsStored s
  pub spelled : IsSpelled s
  pub rows : resources new ≡ later
  pub laid : IsLaid new

-- a stop leaves these resources
pub record Leaves (s : StoredRecord) (later : List Row) (db : Trees) : Type 0 where
  pub lawful : IsStored s
  pub spelled : IsSpelled s
  pub rows : db resource_tree ≡ later

-- the row with this record's number is there, and shows a record with the same name
pub record IsThere (table : List Row) (s : StoredRecord) : Type 0 where
  pub row : Row
  pub held : StoredRecord
  pub only : filter (has_rowid (pos s.number)) table ≡ row ∷ []
  pub shows : IsRowOf (shown_row row) held
  pub named : content_name held.content ≡ content_name s.content
