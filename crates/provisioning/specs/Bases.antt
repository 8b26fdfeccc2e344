-- What the lines of a plan compare the wanted rows with.
use Rattle.std.specs.Prelude.{◌≡◌, Bool, List, [], ◌++◌, Option, Some, None, map, unwrap_or, if◌then◌else◌}
use Rattle.std.specs.BTreeMap.{BTreeMap, get}
use Rattle.std.specs.BTreeSet.{contains}
use Rattle.std.specs.List.{list_any}
use Rattle.scim_key.specs.Records.{name_cmp, same_name}
use Rattle.scim_key.specs.Revisions.{same_revision}
use Rattle.scim_key.specs.declared.records.RecordName.{RecordName}
use Rattle.source_csv.specs.Records.{row_name}
use Rattle.source_csv.specs.declared.rows.Row.{Row}
use Rattle.connector_core.specs.Book.{Book, confirmed_of, wanted_of, wanted_row}
use Rattle.connector_core.specs.Maps.{BookMap, book_of}
use Rattle.provisioning.specs.Offering.{rows_in}
use Rattle.provisioning.specs.Sources.{absent_in}
use Rattle.provisioning.specs.declared.bases.Basis.{Basis}
use Rattle.provisioning.specs.declared.sources.Source.{Source}
use Rattle.provisioning.specs.declared.sources.Sources.{Sources}

-- the row of a record that is confirmed: the wanted one, if its revision is the confirmed revision
abbrev pub confirmed_row : Book → RecordName → Option Row
confirmed_row book name =
    if same_revision (wanted_of book name) (confirmed_of book name) then wanted_row book name else None

-- ---- who is absent

-- the names of the records that are absent from a file
abbrev pub absent_names : Source → List RecordName
absent_names source = map row_name (rows_in (absent_in source))

abbrev pub absent_names_if : Option Source → List RecordName
absent_names_if None = []
absent_names_if (Some source) = absent_names source

abbrev pub all_absent : Sources → List RecordName
all_absent sources = absent_names sources.users ++ absent_names_if sources.groups

-- the record is absent from its file, a snapshot
abbrev pub is_absent : Sources → RecordName → Bool
is_absent sources name = list_any (same_name name) (all_absent sources)

-- ---- both, as the code holds them

-- the row that is kept of this record
abbrev pub kept_row : BTreeMap RecordName (Option Row) → RecordName → Option Row
kept_row rows name = unwrap_or (get name_cmp rows name) None

-- these rows, and this one of one more record
abbrev pub kept_more : (rows : RecordName → Option Row) → (name : RecordName) → Option Row → RecordName
    → Option Row
kept_more rows name row other = if same_name name other then row else rows other

abbrev pub row_in : Basis → RecordName → Option Row
row_in basis name = kept_row basis.rows name

abbrev pub is_among : Basis → RecordName → Bool
is_among basis name = contains name_cmp basis.absent name

-- the confirmed rows of a book, and who is absent from these files
pub record IsBasis (sources : Sources) (book : BookMap) (basis : Basis) : Type 0 where
  pub rows : (name : RecordName) → row_in basis name ≡ confirmed_row (book_of book) name
  pub absent : (name : RecordName) → is_among basis name ≡ is_absent sources name
