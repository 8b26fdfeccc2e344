-- What a file of the source says: a header, and for each record after it a row or a fault.
use Rattle.std.specs.Prelude.{◌≡◌, ℕ, ◌+◌, Bool, List, [], ◌∷◌, Option, Some, None, Result, Ok, Err, map}
use Rattle.std.specs.List.{find}
use Rattle.std.specs.Option.{option_map}
use Rattle.std.specs.Cmp.Lexicographic.{pointwise}
use Rattle.std.specs.Str.{bytes_eq}
use Rattle.csv.specs.Reading.{AreRecords, default_config, strip_bom}
use Rattle.csv.specs.declared.parser.Config.{Config}
use Rattle.csv.specs.declared.parser.State.TheVariants.{StartRecord}
use Rattle.scim_key.specs.Outcome.{◌>>=◌}
use Rattle.scim_key.specs.declared.records.Kind.{Kind}
use Rattle.scim_key.specs.declared.records.Kind.TheVariants as kind
use Rattle.source_csv.specs.Columns.{Record, columns_named}
use Rattle.source_csv.specs.Fields.{read_group, read_user}
use Rattle.source_csv.specs.declared.columns.Columns.{Columns}
use Rattle.source_csv.specs.declared.headers.TheConstants.{GROUP_HEADERS, USER_HEADERS}
use Rattle.source_csv.specs.declared.faults.RowCode.{RowCode}
use Rattle.source_csv.specs.declared.faults.RowFault.{RowFault}
use Rattle.source_csv.specs.declared.faults.SourceFault.{SourceFault}
use Rattle.source_csv.specs.declared.faults.SourceFault.TheVariants.{Header}
use Rattle.source_csv.specs.declared.layouts.Separator.{Separator}
use Rattle.source_csv.specs.declared.layouts.Separator.TheVariants.{Comma, Semicolon, Tab}
use Rattle.source_csv.specs.declared.rows.Row.{Row}
use Rattle.source_csv.specs.declared.rows.Row.TheVariants.{User, Group}

-- what separates the fields of a file, as a byte
abbrev pub separator_byte : Separator → ℕ
separator_byte Comma = 44
separator_byte Semicolon = 59
separator_byte Tab = 9

-- the grammar of a file with this separator
abbrev pub config_of : Separator → Config
config_of separator = record default_config { delimiter = separator_byte separator }

-- The records of a file with this separator, including its header, by the grammar of `csv`, with any number of fields
-- each. A leading byte order mark is ignored, and an empty line isn't a record.
abbrev pub AreRecordsOf : Separator → List ℕ → List Record → Type 0
AreRecordsOf separator bytes records = AreRecords (config_of separator) StartRecord (strip_bom bytes) records

-- the headers that a file of this kind may have, each as its columns
abbrev pub headers_of : Kind → List Record
headers_of kind.User = map (λ columns. map (λ column. column.now) columns.now) USER_HEADERS
headers_of kind.Group = map (λ columns. map (λ column. column.now) columns.now) GROUP_HEADERS

-- whether two records have the same fields, byte for byte
abbrev pub same_record : Record → Record → Bool
same_record one two = pointwise bytes_eq one two

-- our columns in a file of this kind with this header; none if no file of this kind has it
abbrev pub columns_of : Kind → Record → Option Columns
columns_of of header = option_map (columns_named of) (find (same_record header) (headers_of of))

-- a record of a file of this kind with these columns, as a row or as its first fault
unfoldable pub read_row : Kind → Columns → Record → Result Row RowCode
read_row kind.User columns fields = read_user columns fields >>= λ row. Ok (User row)
read_row kind.Group columns fields = read_group columns fields >>= λ row. Ok (Group row)

-- what is read at a place: a row, or a fault with the place
abbrev pub at_place : ℕ → Result Row RowCode → Result Row RowFault
at_place place (Ok row) = Ok row
at_place place (Err code) = Err (record { place = place; code = code })

-- the records after the header, in order, counted from this place on
abbrev pub rows_from : Kind → Columns → ℕ → List Record → List (Result Row RowFault)
rows_from of columns place [] = []
rows_from of columns place (fields ∷ records) =
    at_place place (read_row of columns fields) ∷ rows_from of columns (place + 1) records

-- what the records after the header say. S1: the header isn't one of its kind
abbrev pub rows_in : Kind → Option Columns → List Record → Result (List (Result Row RowFault)) SourceFault
rows_in of None records = Err Header
rows_in of (Some columns) records = Ok (rows_from of columns 1 records)

-- What the records of a file say. S1: there are none, or the first isn't a header of its kind.
abbrev pub rows_of : Kind → List Record → Result (List (Result Row RowFault)) SourceFault
rows_of of [] = Err Header
rows_of of (header ∷ records) = rows_in of (columns_of of header) records

-- every file has exactly one list of records
abbrev pub FilesHaveRecords : Type 0
FilesHaveRecords = (separator : Separator) (bytes : List ℕ)
    → (records : List Record) × AreRecordsOf separator bytes records
    × ((others : List Record) → AreRecordsOf separator bytes others → others ≡ records)
