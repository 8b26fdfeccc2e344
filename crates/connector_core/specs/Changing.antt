-- What the connector says about a row: by its book, and by the history of the source.
use Rattle.std.specs.Prelude.{◌≡◌, ◌≤◌, ℕ, Bool, true, false, ◌&&◌, List, [], ◌∷◌, ◌++◌, Option, Result, Ok, Err, is_none, nat_le, unwrap_or}
use Rattle.std.specs.List.{position_from, slice_get}
use Rattle.std.specs.BTreeSet.{insert_key}
use Rattle.std.specs.FinMap.{get, insert, keys}
use Rattle.scim_key.specs.Records.{name_cmp}
use Rattle.scim_key.specs.declared.records.Kind.{Kind}
use Rattle.scim_key.specs.declared.records.RecordName.{RecordName}
use Rattle.source_csv.specs.Records.{row_name}
use Rattle.source_csv.specs.declared.rows.Row.{Row}
use Rattle.journal_core.specs.Entries.{EntryMap, count_of, most_records, with_row as put_row}
use Rattle.journal_core.specs.Stores.{HasRisen}
use Rattle.scim_key.specs.declared.stores.StoreFault.{StoreFault}
use Rattle.scim_key.specs.declared.stores.StoreFault.TheVariants as store
use Rattle.connector_core.specs.History.{History, user, members_of, last_row, missing_member}
use Rattle.connector_core.specs.Accepting.{accepted}
use Rattle.connector_core.specs.declared.accepting.BookFault.{BookFault}
use Rattle.connector_core.specs.declared.accepting.BookFault.TheVariants as book
use Rattle.connector_core.specs.declared.accepting.Verdict.{Verdict}
use Rattle.connector_core.specs.declared.accepting.Verdict.TheVariants.{New, Known, Older}
use Rattle.connector_core.specs.Book.{Book, wanted_row, wanting, with_row}
use Rattle.connector_core.specs.Maps.{BookMap, book_of}
use Rattle.connector_core.specs.declared.changing.ChangeFault.{ChangeFault}
use Rattle.connector_core.specs.declared.changing.ChangeFault.TheVariants.{Differs, NoSuchMember, TooMany, Store, Memory}

-- ---- how many records there are

-- whether a type has as many records as it may have
abbrev pub is_full : Kind → (names : List RecordName) → Bool
is_full kind names = nat_le (most_records kind) (count_of kind names)

-- ---- the names of the records, users first, and then by the bytes of the key

abbrev pub names_with : (names : List RecordName) → History → List RecordName
names_with names [] = names
names_with names (row ∷ rows) = names_with (insert_key name_cmp names (row_name row)) rows

-- the names of the records of these rows, each once
abbrev pub names_of : History → List RecordName
names_of history = names_with [] history

-- ---- the verdict

-- the member at this place of a row's members
abbrev pub member_at : Row → (place : ℕ) → List ℕ
member_at row place = unwrap_or (slice_get (members_of row) place) []

-- by whether the row is the first of its record while the type is full, and otherwise by its verdict
abbrev pub limited : (no_room : Bool) → Row → Result Verdict BookFault → Result Verdict ChangeFault
limited true row (Ok New) = Err TooMany
limited false row (Ok New) = Ok New
limited no_room row (Ok Known) = Ok Known
limited no_room row (Ok Older) = Ok Older
limited no_room row (Err book.Differs) = Err Differs
limited no_room row (Err (book.NoSuchMember place)) = Err (NoSuchMember (member_at row place))

-- by the last row of the record, the place of the first member that isn't a user record, and whether the row's type is
-- full
abbrev pub verdict : (last : Option Row) → (missing : Option ℕ) → (full : Bool) → Row → Result Verdict ChangeFault
verdict last missing full row = limited (is_none last && full) row (accepted last row missing)

-- the place, from 0, of a row's first member by key that isn't in the book
abbrev pub unknown_member : Book → Row → Option ℕ
unknown_member book row = position_from (λ key. is_none (book (user key))) 0 (members_of row)

-- The verdict on a row by the book, whose records have these names
abbrev pub judging : Book → (names : List RecordName) → Row → Result Verdict ChangeFault
judging book names row =
    verdict (wanted_row book (row_name row)) (unknown_member book row) (is_full (row_name row).kind names) row

-- The verdict on a row by the history alone
abbrev pub judging_by_source : History → Row → Result Verdict ChangeFault
judging_by_source history row =
    verdict (last_row history (row_name row)) (missing_member history row)
    (is_full (row_name row).kind (names_of history)) row

-- ---- other faults

-- the fault says nothing about the row
abbrev pub IsNoVerdict : ChangeFault → Type 0
IsNoVerdict Differs = ⊥
IsNoVerdict (NoSuchMember key) = ⊥
IsNoVerdict TooMany = ⊥
IsNoVerdict Store = Unit {0}
IsNoVerdict Memory = Unit {0}

-- the fault is the verdict on the row
abbrev pub IsRejection : ChangeFault → Type 0
IsRejection Differs = Unit {0}
IsRejection (NoSuchMember key) = Unit {0}
IsRejection TooMany = Unit {0}
IsRejection Store = ⊥
IsRejection Memory = ⊥

-- only a store fault is counted
abbrev pub CountsChange : (old new : ℕ) → ChangeFault → Type 0
CountsChange old new Differs = new ≡ old
CountsChange old new (NoSuchMember key) = new ≡ old
CountsChange old new TooMany = new ≡ old
CountsChange old new Store = (old ≤ new) × HasRisen old new
CountsChange old new Memory = new ≡ old

-- the connector's fault for a fault of its journal
abbrev pub change_fault : StoreFault → ChangeFault
change_fault store.Store = Store
change_fault store.Memory = Memory

-- ---- how the history and the book change

-- a new row is appended, and no other row changes the history
abbrev pub history_after : History → Row → Result Verdict ChangeFault → History
history_after history row (Ok New) = history ++ row ∷ []
history_after history row (Ok Known) = history
history_after history row (Ok Older) = history
history_after history row (Err fault) = history

-- a new row becomes the wanted row of its record, and no other row changes the book
abbrev pub book_after : Book → Row → Result Verdict ChangeFault → Book
book_after book row (Ok New) = with_row book row
book_after book row (Ok Known) = book
book_after book row (Ok Older) = book
book_after book row (Err fault) = book

-- the same for the book as a map
abbrev pub accepted_map : BookMap → Row → Result Verdict ChangeFault → BookMap
accepted_map book row (Ok New) = insert book (row_name row) (wanting (get book (row_name row)) row)
accepted_map book row (Ok Known) = book
accepted_map book row (Ok Older) = book
accepted_map book row (Err fault) = book

-- the same for the entries of the journal
abbrev pub accepted_entries : EntryMap → Row → Result Verdict ChangeFault → EntryMap
accepted_entries entries row (Ok New) = put_row entries row
accepted_entries entries row (Ok Known) = entries
accepted_entries entries row (Ok Older) = entries
accepted_entries entries row (Err fault) = entries

-- ---- rows that are offered together

-- the verdict on a row by a book
abbrev pub judged : BookMap → Row → Result Verdict ChangeFault
judged book row = judging (book_of book) (keys book) row

-- the book that the row leaves
abbrev pub taking : BookMap → Row → BookMap
taking book row = accepted_map book row (judged book row)

-- the verdicts on rows, each by the book that the rows before it left
abbrev pub verdicts : BookMap → List Row → List (Result Verdict ChangeFault)
verdicts book [] = []
verdicts book (row ∷ rows) = judged book row ∷ verdicts (taking book row) rows

-- the book that the rows leave
abbrev pub taking_all : BookMap → List Row → BookMap
taking_all book [] = book
taking_all book (row ∷ rows) = taking_all (taking book row) rows

-- the entries of the journal that the rows leave
abbrev pub entries_all : EntryMap → BookMap → List Row → EntryMap
entries_all entries book [] = entries
entries_all entries book (row ∷ rows) =
    entries_all (accepted_entries entries row (judged book row)) (taking book row) rows

-- the row, if it is new
abbrev pub if_new : Row → Result Verdict ChangeFault → List Row
if_new row (Ok New) = row ∷ []
if_new row (Ok Known) = []
if_new row (Ok Older) = []
if_new row (Err fault) = []

-- the rows that are new
abbrev pub new_rows : BookMap → List Row → List Row
new_rows book [] = []
new_rows book (row ∷ rows) = if_new row (judged book row) ++ new_rows (taking book row) rows

-- the map changes as the book does
abbrev pub MapsAccept : Type 0
MapsAccept = (book : BookMap) (row : Row) (verdict : Result Verdict ChangeFault)
    → book_of (accepted_map book row verdict) ≡ book_after (book_of book) row verdict
