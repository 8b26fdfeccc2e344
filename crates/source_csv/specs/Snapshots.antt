-- What a snapshot says: a header with our columns in any order, and for each record after it a row at the first
-- revision, or why it is rejected, and whose it is.
use Rattle.std.specs.Prelude.{◌≡◌, List, [], ◌∷◌, Option, Some, None, Result, Ok, Err}
use Rattle.scim_key.specs.declared.records.Kind.{Kind}
use Rattle.source_csv.specs.Columns.{Record}
use Rattle.source_csv.specs.Layouts.{ignored_in, snapshot_columns_of}
use Rattle.source_csv.specs.Opening.{HeaderRead}
use Rattle.source_csv.specs.Rejections.{records_from}
use Rattle.source_csv.specs.Streams.{Standing}
use Rattle.source_csv.specs.declared.columns.Columns.{Columns}
use Rattle.source_csv.specs.declared.faults.Rejected.{Rejected}
use Rattle.source_csv.specs.declared.faults.SourceFault.{SourceFault}
use Rattle.source_csv.specs.declared.faults.SourceFault.TheVariants.{Header}
use Rattle.source_csv.specs.declared.layouts.Alias.{Alias}
use Rattle.source_csv.specs.declared.rows.Row.{Row}

-- what the records after the header say. S1: the header isn't one of a snapshot of its kind
abbrev pub snapshot_in : Kind → Option Columns → List Record → Result (List (Result Row Rejected)) SourceFault
snapshot_in of None records = Err Header
snapshot_in of (Some columns) records = Ok (records_from of columns 1 records)

-- What the records of a snapshot say, whose header names our columns by these aliases. S1: there are none, or the first
-- isn't a header of its kind.
abbrev pub snapshot_of : Kind → List Alias → List Record → Result (List (Result Row Rejected)) SourceFault
snapshot_of of aliases [] = Err Header
snapshot_of of aliases (header ∷ records) = snapshot_in of (snapshot_columns_of of aliases header) records

-- the names of the columns that a snapshot with these records has and that are ignored
abbrev pub ignored_of : Kind → List Alias → List Record → Record
ignored_of of aliases [] = []
ignored_of of aliases (header ∷ records) = ignored_in of aliases header

-- the header of a snapshot with these records was read, and these columns of it are ignored
abbrev pub SnapshotOpened : Kind → List Alias → List Record → Standing → (ignored : Record) → Type 0
SnapshotOpened of aliases records file ignored =
    HeaderRead (snapshot_columns_of of aliases) records file.columns file.config file.remaining file.state
    × (ignored ≡ ignored_of of aliases records)
