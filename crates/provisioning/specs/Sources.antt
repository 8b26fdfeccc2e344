-- What the files of a run say.
use Rattle.std.specs.Prelude.{◌≡◌, ℕ, Bool, true, false, ◌&&◌, codes, length, drop, List, [], Option, Some, None, is_none}
use Rattle.std.specs.Prelude.{Result, Ok, Err, is_ok, option_map}
use denote.Ref.{Bor}
use Rattle.std.specs.List.{list_all}
use Rattle.scim_key.specs.declared.records.Kind.{Kind}
use Rattle.scim_key.specs.declared.records.Kind.TheVariants as kinds
use Rattle.source_csv.specs.Fields.{Record}
use Rattle.source_csv.specs.Files.{AreRecordsOf, rows_of}
use Rattle.source_csv.specs.Lines.{multiline_of}
use Rattle.source_csv.specs.declared.layouts.Separator.TheVariants.{Comma}
use Rattle.source_csv.specs.declared.faults.RowFault.{RowFault}
use Rattle.source_csv.specs.declared.faults.SourceFault.{SourceFault}
use Rattle.source_csv.specs.declared.faults.SourceFault.TheVariants.{Header}
use Rattle.source_csv.specs.declared.missing_quotes.Multiline.{Multiline}
use Rattle.source_csv.specs.declared.rows.Row.{Row}
use Rattle.provisioning.specs.declared.sources.Source.{Source}
use Rattle.provisioning.specs.declared.sources.Sources.{Sources}

-- ---- one file

-- the records of a file; none if its header is wrong
abbrev pub records_in : Option (List (Result Row RowFault)) → List (Result Row RowFault)
records_in (Some rows) = rows
records_in None = []

abbrev pub records_of : Source → List (Result Row RowFault)
records_of source = records_in source.rows

abbrev pub as_read : Option (List (Result Row RowFault)) → Result (List (Result Row RowFault)) SourceFault
as_read (Some rows) = Ok rows
as_read None = Err Header

-- the records that are absent from the file: those after its own
abbrev pub absent_in : Source → List (Result Row RowFault)
absent_in source = drop source.present (records_of source)

-- what reading the file gave
abbrev pub read_as : Source → Result (List (Result Row RowFault)) SourceFault
read_as source = as_read source.rows

abbrev pub are_rows : Option (List (Result Row RowFault)) → Bool
are_rows (Some rows) = list_all is_ok rows
are_rows None = false

-- the header is there, each record is a row, and it is certain who is absent
abbrev pub is_whole : Source → Bool
is_whole source = are_rows source.rows && is_none source.unsure

-- ---- the files of a run

abbrev pub is_whole_if : Option Source → Bool
is_whole_if (Some source) = is_whole source
is_whole_if None = true

abbrev pub are_whole : Sources → Bool
are_whole sources = is_whole sources.users && is_whole_if sources.groups

-- ---- reading a file

abbrev pub path_in : Option (Bor (List ℕ)) → Option (List ℕ)
path_in path = option_map (λ path. path.now) path

-- those of a file's records that have a field over several lines; none if its header is wrong
abbrev pub multiline_if : Option (List (Result Row RowFault)) → List Record → List Multiline
multiline_if (Some rows) records = multiline_of records
multiline_if None records = []

-- nothing is said of a file whose header is wrong
pub record IsWithoutRows (of : Kind) (source : Source) : Type 0 where
  pub kind_is : source.kind ≡ of
  pub rows : source.rows ≡ None
  pub present : source.present ≡ 0
  pub multiline : source.multiline.items ≡ []
  pub ignored : source.ignored.items ≡ []
  pub unsure : source.unsure ≡ None

-- these bytes of a file of revisions say this of the records of a type
pub record Says (of : Kind) (bytes : List ℕ) (source : Source) : Type 0 where
  pub kind_is : source.kind ≡ of
  pub ignored : source.ignored.items ≡ []
  pub unsure : source.unsure ≡ None
  pub present : source.present ≡ length (records_of source)
  pub rows : (records : List Record) → AreRecordsOf Comma bytes records → read_as source ≡ rows_of of records
  pub multiline : (records : List Record) → AreRecordsOf Comma bytes records
      → source.multiline.items ≡ multiline_if source.rows records

-- ---- what files are called

abbrev pub label : Kind → List ℕ
label kinds.User = codes "users"
label kinds.Group = codes "groups"
