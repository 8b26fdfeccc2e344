-- The records of a file with the names of those that are rejected.
use Rattle.std.specs.Prelude.{ℕ, ◌+◌, List, [], ◌∷◌, Option, Result, Ok, Err}
use Rattle.scim_key.specs.declared.records.Kind.{Kind}
use Rattle.scim_key.specs.declared.records.RecordName.{RecordName}
use Rattle.source_csv.specs.Columns.{Record}
use Rattle.source_csv.specs.Fields.{name_of}
use Rattle.source_csv.specs.Files.{at_place, read_row}
use Rattle.source_csv.specs.declared.columns.Columns.{Columns}
use Rattle.source_csv.specs.declared.faults.Rejected.{Rejected}
use Rattle.source_csv.specs.declared.faults.RowFault.{RowFault}
use Rattle.source_csv.specs.declared.rows.Row.{Row}

-- a row, or a record that is rejected by this fault, with its name
abbrev pub with_name : Option RecordName → Result Row RowFault → Result Row Rejected
with_name name (Ok row) = Ok row
with_name name (Err fault) = Err (record { fault = fault; name = name })

-- a row, or a rejected record without its name
abbrev pub without_name : Result Row Rejected → Result Row RowFault
without_name (Ok row) = Ok row
without_name (Err rejected) = Err rejected.fault

-- what a record of this kind under a header with these columns says: a row, or why it is rejected, at this place, and
-- its name
abbrev pub record_at : Kind → Columns → ℕ → Record → Result Row Rejected
record_at of columns place fields =
    with_name (name_of of columns fields) (at_place place (read_row of columns fields))

-- what the records after the header say, in order, counted from this place on
abbrev pub records_from : Kind → Columns → ℕ → List Record → List (Result Row Rejected)
records_from of columns place [] = []
records_from of columns place (fields ∷ records) =
    record_at of columns place fields ∷ records_from of columns (place + 1) records
