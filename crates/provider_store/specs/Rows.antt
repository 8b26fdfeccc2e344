-- The rows of the table of resources, and the records that they hold.
use Rattle.std.specs.Prelude.{◌≡◌, ℕ, zero, suc, pos, if◌then◌else◌, List, [], ◌∷◌, Option, Some, None, Result, Ok, Err, slice_get, filter, find}
use Rattle.std.specs.Option.{option_and_then}
use Rattle.std.specs.Ordering.{int_eq}
use Rattle.sqlite_value.specs.declared.value.Value.{Value}
use Rattle.sqlite_value.specs.declared.value.Value.TheVariants.{Null, Int, Text}
use Rattle.sqlite_value.specs.Order.{Row, column, bytes}
use Rattle.sqlite_trees.specs.Tree.{has_rowid}
use Rattle.scim_key.specs.Identifiers.{last_number}
use Rattle.scim_key.specs.declared.records.Kind.{Kind}
use Rattle.scim_key.specs.declared.records.Kind.TheVariants.{User, Group}
use Rattle.scim_resource.specs.Contents.{content_kind, content_name}
use Rattle.scim_resource.specs.Reading.{content_in}
use Rattle.scim_resource.specs.Rows.{StoredRecord, IsStored}
use Rattle.scim_resource.specs.declared.contents.Content.{Content}
use Rattle.scim_resource.specs.declared.faults.ContentFault.{ContentFault}
use Rattle.provider_core.specs.Rows.{IsNumberedFrom, AreNamedApart}

-- ---- one row

abbrev pub kind_code : Kind → ℕ
kind_code User = 1
kind_code Group = 2

-- the columns of a row that the queries show: number, kind, key, version and text
abbrev pub shown_row : Row → Row
shown_row r = column r 0 ∷ column r 2 ∷ column r 3 ∷ column r 4 ∷ column r 5 ∷ []

-- a record as queries show it, with this text of its content
abbrev pub row_of : StoredRecord → List ℕ → Row
row_of s text =
    Int (pos s.number) ∷ Int (pos (kind_code (content_kind s.content)))
    ∷ Text (content_name s.content).key ∷ Int (pos s.version) ∷ Text text ∷ []

-- a record as it is stored: the column of the number is NULL, and the rowid is the number
abbrev pub stored_row : StoredRecord → List ℕ → Row
stored_row s text =
    Int (pos s.number) ∷ Null ∷ Int (pos (kind_code (content_kind s.content)))
    ∷ Text (content_name s.content).key ∷ Int (pos s.version) ∷ Text text ∷ []

-- the row shows this record: its number, the code of its kind, the key of its name, its version, and a text that is
-- read as its content
pub record IsRowOf (shown : Row) (s : StoredRecord) : Type 0 where
  pub text : List ℕ
  pub shows : shown ≡ row_of s text
  pub reads : content_in (content_kind s.content) text ≡ Ok s.content
  pub lawful : IsStored s

-- ---- the record that a row shows

abbrev pub kind_at : Value → Option Kind
kind_at (Int n) = if int_eq n (pos 1) then Some User else (if int_eq n (pos 2) then Some Group else None)
kind_at v = None

abbrev pub number_at : Value → ℕ
number_at (Int (pos n)) = n
number_at v = 0

abbrev pub record_with : ℕ → ℕ → Result Content ContentFault → Option StoredRecord
record_with number version (Ok content) = Some (record { number = number; version = version; content = content })
record_with number version (Err e) = None

abbrev pub record_of_kind : Row → Option Kind → Option StoredRecord
record_of_kind r None = None
record_of_kind r (Some kind) =
    record_with (number_at (column r 0)) (number_at (column r 3)) (content_in kind (bytes (column r 4)))

abbrev pub record_in : Row → Option StoredRecord
record_in r = record_of_kind r (kind_at (column r 1))

-- ---- all rows

abbrev pub listed : Option StoredRecord → List StoredRecord → List StoredRecord
listed None later = []
listed (Some s) later = s ∷ later

abbrev pub record_at : ℕ → List Row → Option StoredRecord
record_at number table = option_and_then (λ r. record_in (shown_row r)) (find (has_rowid (pos number)) table)

unfoldable pub rows_from : ℕ → ℕ → List Row → List StoredRecord
rows_from zero number table = []
rows_from (suc most) number table = listed (record_at number table) (rows_from most (suc number) table)

-- the records of a table, in order of their numbers from 1
unfoldable pub rows_of : List Row → List StoredRecord
rows_of table = rows_from last_number 1 table

-- The table holds exactly these records, each in the only row with its number. They are numbered from 1, and no two
-- have the same name
pub record Holds (table : List Row) (rows : List StoredRecord) : Type 0 where
  pub numbered : IsNumberedFrom 1 rows
  pub apart : AreNamedApart rows
  pub each : (n : ℕ) (s : StoredRecord) → slice_get rows n ≡ Some s → (r : Row)
      × (filter (has_rowid (pos (suc n))) table ≡ r ∷ []) × IsRowOf (shown_row r) s
  pub none : (n : ℕ) → slice_get rows n ≡ None → filter (has_rowid (pos (suc n))) table ≡ []
