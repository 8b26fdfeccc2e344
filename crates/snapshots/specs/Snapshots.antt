-- What is offered for a snapshot, a file that says all that is true today: its records at revisions that the wanted
-- rows give, and the records that are absent from it, withdrawn.
use Rattle.std.specs.Prelude.{ℕ, ◌+◌, Bool, true, false, ◌==◌, ◌&&◌, List, [], ◌∷◌, ◌++◌, length, Option, Some, None, is_none, Result, Ok, Err, nat_lt, if◌then◌else◌, option_to_list}
use Rattle.std.specs.List.{count_by, position}
use Rattle.std.specs.Option.{option_map}
use Rattle.scim_key.specs.Records.{same_kind, same_name}
use Rattle.scim_key.specs.Revisions.{RevisionValue, next_revision}
use Rattle.scim_key.specs.declared.records.Kind.{Kind}
use Rattle.scim_key.specs.declared.records.RecordName.{RecordName}
use Rattle.source_csv.specs.Files.{at_place}
use Rattle.source_csv.specs.Records.{at_revision, row_name, row_revision, says_the_same}
use Rattle.source_csv.specs.declared.faults.RowCode.{RowCode}
use Rattle.source_csv.specs.declared.faults.RowCode.TheVariants as code
use Rattle.source_csv.specs.declared.faults.RowFault.{RowFault}
use Rattle.source_csv.specs.declared.rows.Row.{Row}
use Rattle.source_csv.specs.declared.rows.Row.TheVariants.{User, Group}
use Rattle.source_csv.specs.declared.faults.Rejected.{Rejected}
use Rattle.snapshots.specs.declared.doubts.Unsure.{Unsure}
use Rattle.snapshots.specs.declared.doubts.Unsure.TheVariants.{Unreadable, OpenQuote, NoRecord}

-- a record of a snapshot: a row, or why it isn't one
abbrev pub Said : Type 0
Said = Result Row Rejected

-- the row that the source wants of each record
abbrev pub Wanted : Type 0
Wanted = RecordName → Option Row

-- ---- who is present

-- whose record it is, if its name can be read
abbrev pub name_in : Said → Option RecordName
name_in (Ok row) = Some (row_name row)
name_in (Err rejected) = rejected.name

abbrev pub is_called : RecordName → Option RecordName → Bool
is_called name None = false
is_called name (Some other) = same_name other name

-- how many records of a snapshot have this name
abbrev pub mentions_in : List Said → RecordName → ℕ
mentions_in records name = count_by (λ said. is_called name (name_in said)) records

-- ---- the next row of a record

-- the row at this revision; S14 if there is none
abbrev pub row_at : Option RevisionValue → Row → Result Row RowCode
row_at None row = Err code.LastRevision
row_at (Some revision) row = Ok (at_revision revision row)

-- the row at the revision after that of the wanted row
abbrev pub row_after : (wanted row : Row) → Result Row RowCode
row_after wanted row = row_at (next_revision (row_revision wanted)) row

-- ---- the records of the file

-- a row of the file, by the wanted row of its record
abbrev pub numbered_row : (wanted : Option Row) → Row → Result Row RowCode
numbered_row None row = Ok row
numbered_row (Some wanted) row = if says_the_same row wanted then Ok wanted else row_after wanted row

abbrev pub is_repeated : (mentions : RecordName → ℕ) → Option RecordName → Bool
is_repeated mentions None = false
is_repeated mentions (Some name) = nat_lt 1 (mentions name)

-- the record at this place, which no other record has the name of
abbrev pub numbered_alone : Wanted → (place : ℕ) → Said → Result Row RowFault
numbered_alone wanted place (Ok row) = at_place place (numbered_row (wanted (row_name row)) row)
numbered_alone wanted place (Err rejected) = Err rejected.fault

-- The record at this place. S13: another record has its name, also one that is rejected
abbrev pub numbered_record : Wanted → (mentions : RecordName → ℕ) → (place : ℕ) → Said → Result Row RowFault
numbered_record wanted mentions place said =
    if is_repeated mentions (name_in said) then Err (record { place = place; code = code.RepeatedRecord })
    else numbered_alone wanted place said

-- the records of the file, counted from this place on
abbrev pub numbered_file : Wanted → (mentions : RecordName → ℕ) → (place : ℕ) → List Said → List (Result Row RowFault)
numbered_file wanted mentions place [] = []
numbered_file wanted mentions place (said ∷ records) =
    numbered_record wanted mentions place said ∷ numbered_file wanted mentions (place + 1) records

-- ---- who is absent

-- whether somebody may lose something by this row: an active user, or a group that has members
abbrev pub is_in_force : Row → Bool
is_in_force (User row) = row.active
is_in_force (Group row) = nat_lt 0 (length row.members)

-- the row with status `left`, or without members
abbrev pub withdrawn : Row → Row
withdrawn (User row) = User (record row { active = false })
withdrawn (Group row) = Group (record row { members = [] })

abbrev pub if_in_force : Option Row → Option Row
if_in_force None = None
if_in_force (Some row) = if is_in_force row then Some row else None

-- the wanted row of this record, if the record is of this kind and absent, and its row is in force
abbrev pub absent_row : Wanted → (mentions : RecordName → ℕ) → Kind → RecordName → Option Row
absent_row wanted mentions of name =
    if same_kind name.kind of && (mentions name == 0) then if_in_force (wanted name) else None

-- an absent record, whose fault stands at this place
abbrev pub numbered_withdrawn : (place : ℕ) → Row → Result Row RowFault
numbered_withdrawn place wanted = at_place place (row_after wanted (withdrawn wanted))

-- the absent records among these names
abbrev pub numbered_absent : Wanted → (mentions : RecordName → ℕ) → Kind → (place : ℕ) → (names : List RecordName)
    → List (Result Row RowFault)
numbered_absent wanted mentions of place [] = []
numbered_absent wanted mentions of place (name ∷ names) =
    option_to_list (option_map (numbered_withdrawn place) (absent_row wanted mentions of name))
    ++ numbered_absent wanted mentions of place names

-- ---- whether it is certain who is absent

abbrev pub has_no_name : Said → Bool
has_no_name said = is_none (name_in said)

-- by the index of the first record without a name
abbrev pub unsure_by : Option ℕ → (is_closed : Bool) → List Said → Option Unsure
unsure_by (Some index) is_closed records = Some (Unreadable (index + 1))
unsure_by None false records = Some OpenQuote
unsure_by None true records = if length records == 0 then Some NoRecord else None

-- why it isn't certain who is absent: a record whose name can't be read, an open quote at the end, or no record
abbrev pub unsure : (is_closed : Bool) → List Said → Option Unsure
unsure is_closed records = unsure_by (position has_no_name records) is_closed records

-- ---- all that is offered

abbrev pub absent_if_sure : Option Unsure → List (Result Row RowFault) → List (Result Row RowFault)
absent_if_sure None rows = rows
absent_if_sure (Some why) rows = []

-- What is offered for a snapshot of this kind, by the wanted rows and the names of all records: its records in order,
-- and then those that are absent, if it is certain who is. The fault of an absent record stands at the place after the
-- last record of the file.
unfoldable pub numbered : Wanted → (names : List RecordName) → Kind → List Said → (is_closed : Bool)
    → List (Result Row RowFault)
numbered wanted names of records is_closed =
    numbered_file wanted (mentions_in records) 1 records
    ++ absent_if_sure (unsure is_closed records)
    (numbered_absent wanted (mentions_in records) of (length records + 1) names)
