-- What holds of all that is offered for a snapshot.
use Rattle.std.specs.Prelude.{◌≡◌, ◌⊎◌, Bool, true, false, List, Option, Some, None, Result, Ok, Err, nat_lt, IsSome}
use Rattle.std.specs.FinMap.{keys}
use Rattle.std.specs.List.{AllByRecursion, filter_map}
use Rattle.std.specs.Result.{result_ok}
use Rattle.scim_key.specs.Revisions.{next_revision, ◌≺◌}
use Rattle.scim_key.specs.Records.{same_kind}
use Rattle.scim_key.specs.declared.records.Kind.{Kind}
use Rattle.scim_key.specs.declared.records.RecordName.{RecordName}
use Rattle.source_csv.specs.Records.{row_name, row_revision, says_the_same}
use Rattle.source_csv.specs.declared.faults.RowFault.{RowFault}
use Rattle.source_csv.specs.declared.rows.Row.{Row}
use Rattle.journal_core.specs.Entries.{EntryMap, IsListOf}
use Rattle.journal_core.specs.declared.entries.Entry.{Entry}
use Rattle.connector_core.specs.Book.{wanted_row}
use Rattle.connector_core.specs.Changing.{taking_all, verdicts}
use Rattle.connector_core.specs.Maps.{BookMap, book_of}
use Rattle.connector_core.specs.State.{IsOpened}
use Rattle.connector_core.specs.declared.accepting.Verdict.{Verdict}
use Rattle.connector_core.specs.declared.accepting.Verdict.TheVariants as verdict
use Rattle.connector_core.specs.declared.changing.ChangeFault.{ChangeFault}
use Rattle.connector_core.specs.declared.changing.ChangeFault.TheVariants as fault
use Rattle.snapshots.specs.Snapshots.{Said, Wanted, is_in_force, is_repeated, mentions_in, numbered, unsure}

-- the rows among what is offered, in order
abbrev pub rows_in : List (Result Row RowFault) → List Row
rows_in offered = filter_map result_ok offered

-- each wanted row is of the record that wants it
abbrev pub AreNamed : Wanted → Type 0
AreNamed wanted = (name : RecordName) (row : Row) → wanted name ≡ Some row → row_name row ≡ name

-- the row is the wanted row of its record, or comes after it, or is the first of its record
abbrev pub GoesOn : (wanted : Option Row) → Row → Type 0
GoesOn None row = Unit {0}
GoesOn (Some wanted) row = (row ≡ wanted) ⊎ (row_revision wanted ≺ row_revision row)

-- each wanted row has a revision after it
abbrev pub HasNexts : Wanted → Type 0
HasNexts wanted = (name : RecordName) (row : Row) → wanted name ≡ Some row → IsSome (next_revision (row_revision row))

-- what is wanted is what the row says, but for the revision
abbrev pub SaysTheSame : (wanted : Option Row) → Row → Type 0
SaysTheSame None row = ⊥
SaysTheSame (Some wanted) row = says_the_same row wanted ≡ true

-- if this record of the snapshot is a row and no other record has its name, its record wants what it says
abbrev pub IsWanted : Wanted → List Said → Said → Type 0
IsWanted wanted records (Ok row) =
    is_repeated (mentions_in records) (Some (row_name row)) ≡ false → SaysTheSame (wanted (row_name row)) row
IsWanted wanted records (Err rejected) = Unit {0}

-- nothing is wanted, or a row that isn't in force
abbrev pub IsWithdrawn : (wanted : Option Row) → Type 0
IsWithdrawn None = Unit {0}
IsWithdrawn (Some wanted) = is_in_force wanted ≡ false

-- ---- revisions

-- each row that is offered goes on from the wanted row of its record
abbrev pub RevisionsRise : Type 0
RevisionsRise = (wanted : Wanted) (names : List RecordName) (of : Kind) (records : List Said) (is_closed : Bool)
    → AreNamed wanted
    → AllByRecursion (λ row. GoesOn (wanted (row_name row)) row) (rows_in (numbered wanted names of records is_closed))

-- if it isn't certain who is absent, each row that is offered is of a record of the file
abbrev pub NobodyIsWithdrawnIfUnsure : Type 0
NobodyIsWithdrawnIfUnsure = (wanted : Wanted) (names : List RecordName) (of : Kind) (records : List Said)
    (is_closed : Bool) → AreNamed wanted → IsSome (unsure is_closed records)
    → AllByRecursion (λ row. nat_lt 0 (mentions_in records (row_name row)) ≡ true)
    (rows_in (numbered wanted names of records is_closed))

-- ---- what the connector makes of it

-- what is offered for a snapshot by this book
abbrev pub numbered_by : BookMap → Kind → List Said → (is_closed : Bool) → List (Result Row RowFault)
numbered_by book of records is_closed = numbered (wanted_row (book_of book)) (keys book) of records is_closed

-- the rows that are offered
abbrev pub offered_by : BookMap → Kind → List Said → (is_closed : Bool) → List Row
offered_by book of records is_closed = rows_in (numbered_by book of records is_closed)

-- the connector took the row, or had it
abbrev pub IsAccepted : Result Verdict ChangeFault → Type 0
IsAccepted (Ok verdict.New) = Unit {0}
IsAccepted (Ok verdict.Known) = Unit {0}
IsAccepted (Ok verdict.Older) = ⊥
IsAccepted (Err fault) = ⊥

abbrev pub IsNotOlder : Verdict → Type 0
IsNotOlder verdict.New = Unit {0}
IsNotOlder verdict.Known = Unit {0}
IsNotOlder verdict.Older = ⊥

-- the connector doesn't refuse the row for its revision: it isn't older, nor is there another row at its revision
abbrev pub IsNoSetback : Result Verdict ChangeFault → Type 0
IsNoSetback (Ok said) = IsNotOlder said
IsNoSetback (Err fault.Differs) = ⊥
IsNoSetback (Err (fault.NoSuchMember key)) = Unit {0}
IsNoSetback (Err fault.TooMany) = Unit {0}
IsNoSetback (Err fault.Store) = Unit {0}
IsNoSetback (Err fault.Memory) = Unit {0}

-- so it is for all rows that are offered, one after another
abbrev pub NoSetbacks : Type 0
NoSetbacks = (book : BookMap) (of : Kind) (records : List Said) (is_closed : Bool)
    → AreNamed (wanted_row (book_of book))
    → AllByRecursion IsNoSetback (verdicts book (offered_by book of records is_closed))

-- The later book has what the snapshot says
pub record IsTaken (book later : BookMap) (of : Kind) (records : List Said) (is_closed : Bool) : Type 0 where
  -- each row of the file
  pub present : AllByRecursion (IsWanted (wanted_row (book_of later)) records) records
  -- if it is certain who is absent: no other record of this kind is in force
  pub absent : unsure is_closed records ≡ None → (name : RecordName) → same_kind name.kind of ≡ true
      → mentions_in records name ≡ 0 → IsWithdrawn (wanted_row (book_of later) name)
  -- no record of the other kind changes, unless the file names it
  pub others : (name : RecordName) → same_kind name.kind of ≡ false → mentions_in records name ≡ 0
      → wanted_row (book_of later) name ≡ wanted_row (book_of book) name

-- if the connector takes all rows that are offered, its book has what the snapshot says
abbrev pub SnapshotIsTaken : Type 0
SnapshotIsTaken = (book : BookMap) (of : Kind) (records : List Said) (is_closed : Bool)
    → AreNamed (wanted_row (book_of book)) → HasNexts (wanted_row (book_of book))
    → AllByRecursion IsAccepted (verdicts book (offered_by book of records is_closed))
    → IsTaken book (taking_all book (offered_by book of records is_closed)) of records is_closed

-- the connector has each of these rows already
abbrev pub AreKnown : BookMap → List Row → Type 0
AreKnown book rows = AllByRecursion (λ said. said ≡ Ok verdict.Known) (verdicts book rows)

-- and the same snapshot, numbered again, offers nothing new
abbrev pub AgainOffersNothing : Type 0
AgainOffersNothing = (book : BookMap) (of : Kind) (records : List Said) (is_closed : Bool)
    → AreNamed (wanted_row (book_of book))
    → AllByRecursion IsAccepted (verdicts book (offered_by book of records is_closed))
    → AreKnown (taking_all book (offered_by book of records is_closed))
    (offered_by (taking_all book (offered_by book of records is_closed)) of records is_closed)

-- The wanted rows of a book are each of the record that wants them: if the book has the entries of a journal, and after
-- rows that the connector takes
pub record BooksAreNamed : Type 0 where
  pub opened : (kept : EntryMap) (list : List Entry) (book : BookMap) → IsListOf kept list → IsOpened kept book
      → AreNamed (wanted_row (book_of book))
  pub taken : (book : BookMap) (rows : List Row) → AreNamed (wanted_row (book_of book))
      → AreNamed (wanted_row (book_of (taking_all book rows)))
