-- What the opening of a file of the source finds, and the faults of reading it.
use Rattle.std.specs.Prelude.{◌≡◌, ℕ, List, ◌∷◌, Option, Some, Result, Ok, Err, ⊤}
use Rattle.csv.specs.declared.error.ErrorKind.{ErrorKind}
use Rattle.csv.specs.declared.error.ErrorKind.TheVariants as error
use Rattle.csv.specs.declared.parser.Config.{Config}
use Rattle.csv.specs.declared.parser.State.{State}
use Rattle.scim_key.specs.declared.records.Kind.{Kind}
use Rattle.source_csv.specs.Columns.{Record}
use Rattle.source_csv.specs.declared.columns.Columns.{Columns}
use Rattle.source_csv.specs.Files.{columns_of, rows_of}
use Rattle.source_csv.specs.Streams.{Leaves, Standing}
use Rattle.source_csv.specs.declared.faults.SourceFault.{SourceFault}
use Rattle.source_csv.specs.declared.faults.SourceFault.TheVariants.{Header, Memory}
use Rattle.source_csv.specs.declared.streams.ReadFault.{ReadFault}
use Rattle.source_csv.specs.declared.streams.ReadFault.TheVariants.{Source, Input}

-- the fault of an error that stops a reader
abbrev pub read_fault : ErrorKind → ReadFault
read_fault (error.Io why) = Input why
read_fault _ = Source Memory

-- the same, of a file in memory, of which no read fails
abbrev pub source_fault : ReadFault → SourceFault
source_fault (Source fault) = fault
source_fault (Input why) = Memory

-- a fault that says nothing of the header
abbrev pub IsReadFault : ReadFault → Type 0
IsReadFault (Source Header) = ⊥
IsReadFault (Source Memory) = ⊤
IsReadFault (Input why) = ⊤

-- The header of a file with these records was read: it has these columns, as they are found in it, and the other
-- records are left in these bytes, by this grammar.
abbrev pub HeaderRead : (Record → Option Columns) → List Record → Columns → Config → (remaining : Option (List ℕ))
    → State → Type 0
HeaderRead found records columns config remaining state = (header : Record) × (rest : List Record)
    × (records ≡ header ∷ rest) × (found header ≡ Some columns) × Leaves config remaining state rest

-- The header of a file with these records wasn't read. S1 comes exactly if the file says nothing else.
abbrev pub HeaderUnread : Kind → List Record → ReadFault → Type 0
HeaderUnread of records (Source Header) = rows_of of records ≡ Err Header
HeaderUnread of records (Source Memory) = ⊤
HeaderUnread of records (Input why) = ⊤

-- the opening of a file with these records, which reads its header
abbrev pub Opens : Kind → List Record → Result Standing ReadFault → Type 0
Opens of records (Ok rows) = HeaderRead (columns_of of) records rows.columns rows.config rows.remaining rows.state
Opens of records (Err fault) = HeaderUnread of records fault
