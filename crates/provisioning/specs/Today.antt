-- Snapshots among the files of a run: what holds today, numbered by the wanted rows of a book.
use Rattle.std.specs.Prelude.{◌≡◌, ◌==◌, ◌&&◌, ℕ, Bool, List, [], length, Option, Some, None, Result, Ok, Err, map, option_map}
use Rattle.scim_key.specs.declared.records.Kind.{Kind}
use Rattle.scim_key.specs.declared.records.Kind.TheVariants as kinds
use Rattle.source_csv.specs.Columns.{Record}
use Rattle.source_csv.specs.Files.{AreRecordsOf}
use Rattle.source_csv.specs.Lines.{multiline_of}
use Rattle.source_csv.specs.Quotes.{is_closed}
use Rattle.source_csv.specs.Snapshots.{ignored_of, snapshot_of}
use Rattle.source_csv.specs.declared.faults.RowFault.{RowFault}
use Rattle.source_csv.specs.declared.faults.SourceFault.{SourceFault}
use Rattle.source_csv.specs.declared.layouts.Alias.{Alias}
use Rattle.source_csv.specs.declared.layouts.Layout.{Layout}
use Rattle.source_csv.specs.declared.layouts.Separator.{Separator}
use Rattle.source_csv.specs.declared.missing_quotes.Multiline.{Multiline}
use Rattle.source_csv.specs.declared.rows.Row.{Row}
use Rattle.source_csv.specs.declared.snapshots.SnapshotFile.{SnapshotFile}
use Rattle.connector_core.specs.Maps.{BookMap}
use Rattle.snapshots.specs.Laws.{numbered_by}
use Rattle.snapshots.specs.Snapshots.{Said, unsure}
use Rattle.snapshots.specs.declared.doubts.Unsure.{Unsure}
use Rattle.provisioning.specs.Sources.{multiline_if, read_as}
use Rattle.provisioning.specs.declared.sources.Source.{Source}
use Rattle.provisioning.specs.declared.today.Layouts.{Layouts}
use Rattle.provisioning.specs.declared.today.Today.{Today}

-- ---- what numbers snapshots

-- How they are laid out, and the book by whose wanted rows they are numbered
pub record Numbering : Type 0 where
  pub layouts : Layouts
  pub book : BookMap

abbrev pub view_of : {J : Type 0} → Today J → Numbering
view_of today = record { layouts = today.layouts.now; book = today.connector.now.book }

abbrev pub numbering_in : {J : Type 0} → Option (Today J) → Option Numbering
numbering_in today = option_map view_of today

abbrev pub layout_of : Layouts → Kind → Layout
layout_of layouts kinds.User = layouts.users
layout_of layouts kinds.Group = layouts.groups

abbrev pub separator_of : Numbering → Kind → Separator
separator_of by of = (layout_of by.layouts of).separator

abbrev pub aliases_of : Numbering → Kind → List Alias
aliases_of by of = (layout_of by.layouts of).aliases.items

-- ---- what a snapshot offers

-- the rows that are offered for its records; none if its header is wrong
abbrev pub offered_for : BookMap → Kind → (is_closed : Bool) → Result (List Said) SourceFault
    → Result (List (Result Row RowFault)) SourceFault
offered_for book of is_closed (Ok records) = Ok (numbered_by book of records is_closed)
offered_for book of is_closed (Err why) = Err why

-- how many records it has; none if its header is wrong
abbrev pub present_in : Result (List Said) SourceFault → ℕ
present_in (Ok records) = length records
present_in (Err why) = 0

-- why it isn't certain who is absent, by its records
abbrev pub unsure_for : (is_closed : Bool) → Result (List Said) SourceFault → Option Unsure
unsure_for is_closed (Ok records) = unsure is_closed records
unsure_for is_closed (Err why) = None

-- no quote is open at the end, and no field goes over several lines: it may have swallowed records, for want of a quote
abbrev pub are_quotes_whole : (is_closed : Bool) → List Multiline → Bool
are_quotes_whole is_closed multiline = is_closed && (length multiline == 0)

-- the columns that are ignored; none if the header is wrong
abbrev pub ignored_if : Option (List (Result Row RowFault)) → (ignored : Record) → Record
ignored_if (Some rows) ignored = ignored
ignored_if None ignored = []

-- a snapshot that was read is numbered by this book
pub record IsNumbered (of : Kind) (file : SnapshotFile) (book : BookMap) (source : Source) : Type 0 where
  pub kind_is : source.kind ≡ of
  pub rows : source.rows
      ≡ Some (numbered_by book of file.records.items (are_quotes_whole file.is_closed file.multiline.items))
  pub present : source.present ≡ length file.records.items
  pub multiline : source.multiline.items ≡ file.multiline.items
  pub ignored : source.ignored.items ≡ file.ignored.items
  pub unsure : source.unsure ≡ unsure (are_quotes_whole file.is_closed file.multiline.items) file.records.items

-- these bytes of a snapshot, which is numbered so, say this of the records of a type
pub record SaysToday (by : Numbering) (of : Kind) (bytes : List ℕ) (source : Source) : Type 0 where
  pub kind_is : source.kind ≡ of
  pub rows : (records : List Record) → AreRecordsOf (separator_of by of) bytes records → read_as source
      ≡ offered_for by.book of (are_quotes_whole (is_closed (separator_of by of) bytes) (multiline_of records))
      (snapshot_of of (aliases_of by of) records)
  pub present : (records : List Record) → AreRecordsOf (separator_of by of) bytes records
      → source.present ≡ present_in (snapshot_of of (aliases_of by of) records)
  pub multiline : (records : List Record) → AreRecordsOf (separator_of by of) bytes records
      → source.multiline.items ≡ multiline_if source.rows records
  pub ignored : (records : List Record) → AreRecordsOf (separator_of by of) bytes records
      → map (λ name. name.items) source.ignored.items
      ≡ ignored_if source.rows (ignored_of of (aliases_of by of) records)
  pub unsure : (records : List Record) → AreRecordsOf (separator_of by of) bytes records → source.unsure
      ≡ unsure_for (are_quotes_whole (is_closed (separator_of by of) bytes) (multiline_of records))
      (snapshot_of of (aliases_of by of) records)
