-- What `map` prints of a file that is read one record at a time.
use Rattle.std.specs.Prelude.{◌≡◌, ◌⊎◌, ℕ, Bool, List, [], ◌∷◌, Option, Some, None, Result, is_ok, IfErr, IfOk}
use Rattle.std.specs.Io.KnownBytes.{Appends}
use Rattle.std.specs.declared.io.Error.{Error}
use Rattle.mapping.specs.Lines.{lines_of, record_line}
use Rattle.mapping.specs.declared.lines.WriteFault.{WriteFault}
use Rattle.scim_key.specs.declared.records.Kind.TheVariants.{User}
use Rattle.source_csv.specs.Fields.{Record}
use Rattle.source_csv.specs.Opening.{IsReadFault}
use Rattle.source_csv.specs.Streams.{HasLeft, Standing, rows_next}
use Rattle.source_csv.specs.declared.faults.RowFault.{RowFault}
use Rattle.source_csv.specs.declared.rows.Row.{Row}
use Rattle.source_csv.specs.declared.streams.ReadFault.{ReadFault}
use Rattle.commands.specs.Causes.{concluded}
use Rattle.commands.specs.Statuses.{file_fault, lines_fault, records_status}
use Rattle.commands.specs.declared.status.CommandFault.{CommandFault}
use Rattle.commands.specs.declared.status.Status.{Status}

-- The lines of some rows and rejected records were printed, and the status is theirs. If the bytes of the file are
-- known, they are those of its records that were left.
abbrev pub Prints : Standing → (before after : Option (List ℕ)) → Status → Type 0
Prints rows before after status = (given : List (Result Row RowFault))
    × Appends before after (lines_of given) × (status ≡ records_status given)
    × ((records : List Record) → HasLeft rows records → given ≡ rows_next rows records)

-- A step: the line of a row or a rejected record was printed, which is the next one if the bytes are known; or nothing,
-- at the end.
abbrev pub PrintsNext : (old new : Standing) → (before after : Option (List ℕ)) → Option Bool → Type 0
PrintsNext old new before after (Some is_row) = (row : Result Row RowFault) × (is_row ≡ is_ok row)
    × Appends before after (record_line row)
    × ((records : List Record) → HasLeft old records →
    (rest : List Record) × HasLeft new rest × (rows_next old records ≡ row ∷ rows_next new rest))
PrintsNext old new before after None = (after ≡ before) × ((records : List Record) → HasLeft old records → records ≡ [])

-- a fault of the lines, or of reading the file after its header
abbrev pub IsMapFault : CommandFault → Type 0
IsMapFault fault = ((why : WriteFault) × (fault ≡ lines_fault why))
    ⊎ ((why : ReadFault) × IsReadFault why × (fault ≡ file_fault why))

-- what was left of a file was printed, or a fault came, which has the system's error if a line couldn't be written
pub record EndsPrinting (rows : Standing) (before after : Option (List ℕ)) (last : Option Error)
    (ended : Result Status CommandFault) : Type 0 where
  pub printed : Result Status CommandFault
  pub prints : IfOk printed (Prints rows before after)
  pub fault : IfErr printed IsMapFault
  pub ended_is : ended ≡ concluded last printed

-- everything after the header of a file of users was printed
pub record IsMapped (status : Status) : Type 0 where
  pub rows : Standing
  pub kind : rows.kind ≡ User
  pub first : rows.place ≡ 0
  pub before : Option (List ℕ)
  pub after : Option (List ℕ)
  pub prints : Prints rows before after status
