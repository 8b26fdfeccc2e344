-- Which rows of a table are valid, and which row an opening refuses.
use Rattle.std.specs.Prelude.{◌≡◌, ◌≢◌, ◌⊎◌, ℕ, suc, ◌<◌, ◌≤◌, pos, Bool, true, false, ◌&&◌, ◌||◌, List, [], ◌∷◌, filter}
use Rattle.std.specs.Ordering.{is_eq, is_lt, is_gt}
use Rattle.sqlite_value.specs.declared.value.Value.{Value}
use Rattle.sqlite_value.specs.declared.value.Value.TheVariants.{Null, Int, Text}
use Rattle.sqlite_value.specs.Order.{Row, column, value_cmp}
use Rattle.sqlite_sql.specs.Ops.{is_null}
use Rattle.sqlite_trees.specs.Tree.{rowid, has_rowid}
use Rattle.sqlite_rules.specs.Lists.{Has}
use Rattle.scim_key.specs.Identifiers.{last_number}
use Rattle.scim_key.specs.declared.records.RecordName.{RecordName}
use Rattle.scim_resource.specs.Contents.{content_name}
use Rattle.scim_resource.specs.Rows.{StoredRecord}
use Rattle.provider_store.specs.Rows.{kind_code, shown_row, IsRowOf, number_at}

-- ---- one row

-- the row has this kind and this key, as SQLite compares them
abbrev pub has_name : RecordName → Row → Bool
has_name name r =
    is_eq (value_cmp (column r 2) (Int (pos (kind_code name.kind)))) && is_eq (value_cmp (column r 3) (Text name.key))

-- exactly one row has this number; it shows a record, and no other row has that record's kind and key
pub record IsLawfulAt (table : List Row) (number : ℕ) : Type 0 where
  pub row : Row
  pub held : StoredRecord
  pub only : filter (has_rowid (pos number)) table ≡ row ∷ []
  pub shows : IsRowOf (shown_row row) held
  pub named : filter (has_name (content_name held.content)) table ≡ row ∷ []

-- no row that shows a record is the only row with this kind and key
abbrev pub NoneNamed : List Row → RecordName → Type 0
NoneNamed table name = (r : Row) (s : StoredRecord) → filter (has_name name) table ≡ r ∷ []
    → IsRowOf (shown_row r) s → ⊥

-- a row has this number, and isn't valid
pub record IsWrong (table : List Row) (number : ℕ) : Type 0 where
  pub stands : filter (has_rowid (pos number)) table ≢ []
  pub unlawful : IsLawfulAt table number → ⊥

-- ---- the rows in turn

-- no row has NULL as its number
abbrev pub AreNumbered : List Row → Type 0
AreNumbered table = filter (λ r. is_null (rowid r)) table ≡ []

-- the rows with the numbers from 1 to this one are valid
abbrev pub AreLawfulTo : List Row → ℕ → Type 0
AreLawfulTo table count = (n : ℕ) → 1 ≤ n → n ≤ count → IsLawfulAt table n

-- no row has the next number, or there is no next one
abbrev pub EndsAt : List Row → ℕ → Type 0
EndsAt table count = (filter (has_rowid (pos (suc count))) table ≡ []) ⊎ (count ≡ last_number)

-- the number is below 1 or above this one, as SQLite compares them; NULL, which no row has as its number, is neither
abbrev pub is_outside : ℕ → Value → Bool
is_outside count Null = false
is_outside count v = is_lt (value_cmp v (Int (pos 1))) || is_gt (value_cmp v (Int (pos count)))

-- there is a row whose number isn't from 1 to this count; its number is reported, and 0 for a number below 0
pub record IsOutside (table : List Row) (count number : ℕ) : Type 0 where
  pub row : Row
  pub there : Has table row
  pub outside : is_outside count (rowid row) ≡ true
  pub told : number ≡ number_at (rowid row)

-- every row has a number from 1 to this count
abbrev pub AreWithin : List Row → ℕ → Type 0
AreWithin table count = filter (λ r. is_outside count (rowid r)) table ≡ []

-- the rows are valid, and their numbers are exactly those from 1 to this count
pub record AreAllLawful (table : List Row) (count : ℕ) : Type 0 where
  pub each : AreLawfulTo table count
  pub within : AreWithin table count

-- the first row that isn't valid: all rows before it, from 1 on, are
pub record IsFirstWrong (table : List Row) (number : ℕ) : Type 0 where
  pub from_one : 1 ≤ number
  pub before : (n : ℕ) → 1 ≤ n → n < number → IsLawfulAt table n
  pub wrong : IsWrong table number

-- a row that shouldn't be there: valid rows follow each other from 1 to the last that does, and this row isn't one of
-- them
pub record IsAstray (table : List Row) (number : ℕ) : Type 0 where
  pub count : ℕ
  pub before : AreLawfulTo table count
  pub ends : EndsAt table count
  pub beside : IsOutside table count number

-- the row that an opening refuses
abbrev pub IsUnlawfulAt : List Row → ℕ → Type 0
IsUnlawfulAt table number = IsFirstWrong table number ⊎ IsAstray table number
