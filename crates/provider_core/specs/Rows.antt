-- The rows of a provider, in order of creation, and how one of them is found.
use Rattle.std.specs.Prelude.{◌≡◌, ℕ, suc, Bool, ◌==◌, List, [], ◌∷◌, Option, Some, None, length, take, map, nat_lt, if◌then◌else◌}
use Rattle.std.specs.List.{find, filter, IsDistinct}
use Rattle.std.specs.Str.{bytes_eq}
use Rattle.scim_key.specs.declared.records.Kind.{Kind}
use Rattle.scim_key.specs.declared.records.RecordName.{RecordName}
use Rattle.scim_key.specs.Identifiers.{id_text}
pub use Rattle.scim_key.specs.Records.{same_kind, same_name}
use Rattle.scim_resource.specs.Contents.{content_kind, content_name}
use Rattle.scim_resource.specs.Rows.{StoredRecord}

-- whether a row is of this record
abbrev pub is_named : RecordName → StoredRecord → Bool
is_named name row = same_name name (content_name row.content)

-- the row of a record, if there is one
abbrev pub row_named : RecordName → List StoredRecord → Option StoredRecord
row_named name rows = find (is_named name) rows

-- how many rows there are, if none of them is of the record
abbrev pub count_if_none : Option StoredRecord → List StoredRecord → Option ℕ
count_if_none None rows = Some (length rows)
count_if_none (Some row) rows = None

abbrev pub count_if_free : RecordName → List StoredRecord → Option ℕ
count_if_free name rows = count_if_none (row_named name rows) rows

-- whether a row has this id, byte for byte
abbrev pub has_id : List ℕ → StoredRecord → Bool
has_id id row = bytes_eq id (id_text row.number)

-- the row with this id, if there is one
abbrev pub row_with_id : List ℕ → List StoredRecord → Option StoredRecord
row_with_id id rows = find (has_id id) rows

-- the row, if it is of this type
abbrev pub if_of_kind : Kind → Option StoredRecord → Option StoredRecord
if_of_kind kind None = None
if_of_kind kind (Some row) = if same_kind kind (content_kind row.content) then Some row else None

-- the resource of this type with this id, if there is one
abbrev pub resource : Kind → List ℕ → List StoredRecord → Option StoredRecord
resource kind id rows = if_of_kind kind (row_with_id id rows)

-- at most `limit` rows, in order, from the first with a number above `after`
abbrev pub is_after : ℕ → StoredRecord → Bool
is_after after row = nat_lt after row.number

abbrev pub page_after : ℕ → ℕ → List StoredRecord → List StoredRecord
page_after after limit rows = take limit (filter (is_after after) rows)

-- the row with this number, if there is one
abbrev pub has_number : ℕ → StoredRecord → Bool
has_number number row = row.number == number

abbrev pub row_numbered : ℕ → List StoredRecord → Option StoredRecord
row_numbered number rows = find (has_number number) rows

-- the rows, with this row in place of the one with the same number
abbrev pub with_row : StoredRecord → List StoredRecord → List StoredRecord
with_row row [] = []
with_row row (r ∷ rs) = if has_number row.number r then row ∷ rs else r ∷ with_row row rs

-- the rows are numbered one after the other, from this number on
abbrev pub IsNumberedFrom : ℕ → List StoredRecord → Type 0
IsNumberedFrom number [] = Unit {0}
IsNumberedFrom number (row ∷ rows) = (row.number ≡ number) × IsNumberedFrom (suc number) rows

-- the names of these rows' records
abbrev pub names_of : List StoredRecord → List RecordName
names_of rows = map (λ row. content_name row.content) rows

-- no two rows are of the same record
abbrev pub AreNamedApart : List StoredRecord → Type 0
AreNamedApart rows = IsDistinct same_name (names_of rows)
