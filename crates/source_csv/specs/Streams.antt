-- A file of the source, read one record at a time.
use Rattle.std.specs.Prelude.{◌≡◌, ℕ, ◌+◌, Bool, true, false, List, [], ◌∷◌, ◌++◌, map, Option, Some, Result}
use Rattle.csv.specs.Reading.{AreRecords, Ready, is_flexible, reader_trim}
use Rattle.csv.specs.declared.parser.Config.{Config}
use Rattle.csv.specs.declared.parser.State.{State}
use Rattle.csv.specs.declared.reader.Reader.{Reader}
use Rattle.csv.specs.declared.reader.Trim.TheVariants as trim
use Rattle.scim_key.specs.declared.records.Kind.{Kind}
use Rattle.source_csv.specs.Columns.{Record}
use Rattle.source_csv.specs.Rejections.{record_at, records_from}
use Rattle.source_csv.specs.declared.columns.Columns.{Columns}
use Rattle.source_csv.specs.declared.faults.Rejected.{Rejected}
use Rattle.source_csv.specs.Files.{at_place, read_row, rows_from}
use Rattle.source_csv.specs.Lines.{multiline_from, record_lines}
use Rattle.source_csv.specs.declared.faults.RowFault.{RowFault}
use Rattle.source_csv.specs.declared.missing_quotes.Multiline.{Multiline}
use Rattle.source_csv.specs.declared.rows.Row.{Row}

-- a reader that gives each record as it is, with any number of fields
pub record IsPlain {R : Type 0} (reader : Reader R) : Type 0 where
  pub trim : reader_trim reader ≡ trim.None
  pub ready : Ready reader
  pub flexible : is_flexible reader ≡ true

-- Where a reader of rows stands: our columns in the header, the place of the last record and its fields, the grammar of
-- the file and its state after that record, and the bytes that are left, if they are known.
pub record Standing : Type 0 where
  pub kind : Kind
  pub columns : Columns
  pub place : ℕ
  pub fields : Record
  pub config : Config
  pub state : State
  pub remaining : Option (List ℕ)

-- the known bytes that are left have these records, by this grammar
abbrev pub Leaves : Config → (remaining : Option (List ℕ)) → State → List Record → Type 0
Leaves config remaining state records = (bytes : List ℕ) × (remaining ≡ Some bytes)
    × AreRecords config state bytes records

-- these records are left
abbrev pub HasLeft : Standing → List Record → Type 0
HasLeft rows records = Leaves rows.config rows.remaining rows.state records

-- A step over these records: it took the first of them, with these fields, and the others are left. Or there were none.
abbrev pub Takes : (found : Bool) → (fields : Record) → Config → (remaining : Option (List ℕ)) → State
    → List Record → Type 0
Takes true fields config remaining state records = (rest : List Record) × (records ≡ fields ∷ rest)
    × Leaves config remaining state rest
Takes false fields config remaining state records = records ≡ []

-- the place after a step
abbrev pub place_after : (found : Bool) → ℕ → ℕ
place_after true place = place + 1
place_after false place = place

-- what the last record says
abbrev pub last_row : Standing → Result Row RowFault
last_row rows = at_place rows.place (read_row rows.kind rows.columns rows.fields)

-- the same with its name, if it is rejected
abbrev pub last_record : Standing → Result Row Rejected
last_record rows = record_at rows.kind rows.columns rows.place rows.fields

-- what these records say, if they come next
abbrev pub rows_next : Standing → List Record → List (Result Row RowFault)
rows_next rows records = rows_from rows.kind rows.columns (rows.place + 1) records

-- the same with the names of those that are rejected
abbrev pub records_next : Standing → List Record → List (Result Row Rejected)
records_next rows records = records_from rows.kind rows.columns (rows.place + 1) records

-- those of these records that have a field over several lines, if they come next
abbrev pub multiline_next : Standing → List Record → List Multiline
multiline_next rows records = multiline_from (rows.place + 1) (map record_lines records)

-- A step over these records: it added what the first of them says, marked it if it has a field over several lines, and
-- the others are left. Or there were none.
abbrev pub Adds : (found : Bool) → (old new : Standing) → (before after : List (Result Row Rejected))
    → (marked marks : List Multiline) → List Record → Type 0
Adds true old new before after marked marks records = (rest : List Record) × HasLeft new rest
    × (before ++ records_next old records ≡ after ++ records_next new rest)
    × (marked ++ multiline_next old records ≡ marks ++ multiline_next new rest)
Adds false old new before after marked marks records = (records ≡ []) × (after ≡ before) × (marks ≡ marked)
