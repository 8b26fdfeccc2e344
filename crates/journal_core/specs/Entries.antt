-- The entries of a journal, and how they change.
use Rattle.std.specs.Prelude.{◌≡◌, ◌<◌, ℕ, List, [], ◌∷◌, Option, Some, None, map, IsSome}
use Rattle.std.specs.FinMap.{FinMap, entries, get, insert, keys}
use Rattle.std.specs.List.{All, count_by}
use Rattle.scim_key.specs.Revisions.{RevisionValue, IsNoneOrRevision, IsRevision, no_revision, ◌≼◌}
use Rattle.scim_key.specs.declared.records.Kind.{Kind}
use Rattle.scim_key.specs.declared.records.Kind.TheVariants.{User, Group}
use Rattle.scim_key.specs.Records.{name_cmp, same_kind}
use Rattle.scim_key.specs.declared.records.RecordName.{RecordName}
use Rattle.source_csv.specs.Records.{members_of, row_name, row_revision, user}
use Rattle.source_csv.specs.declared.rows.Row.{Row}
use Rattle.journal_core.specs.declared.entries.Entry.{Entry}
use Rattle.journal_core.specs.declared.entries.TheConstants.{USER_LIMIT, GROUP_LIMIT}

-- the entries of the records, each under its name
abbrev pub EntryMap : Type 0
EntryMap = FinMap name_cmp Entry

-- ---- how they change

abbrev pub entry_with : Row → Option Entry → Entry
entry_with row None = record { row = row; confirmed = no_revision; id = None }
entry_with row (Some entry) = record entry { row = row }

-- the entries with this row: a new record has nothing else, an existing one keeps its id and its confirmed revision
abbrev pub with_row : EntryMap → Row → EntryMap
with_row map row = insert map (row_name row) (entry_with row (get map (row_name row)))

-- the entries with these rows, put one after another
abbrev pub with_rows : EntryMap → List Row → EntryMap
with_rows map [] = map
with_rows map (row ∷ rows) = with_rows (with_row map row) rows

abbrev pub entry_learnt : RevisionValue → List ℕ → Entry → Entry
entry_learnt confirmed id entry = record entry { confirmed = confirmed; id = Some id }

abbrev pub learnt_at : EntryMap → RecordName → RevisionValue → List ℕ → Option Entry → EntryMap
learnt_at map name confirmed id None = map
learnt_at map name confirmed id (Some entry) = insert map name (entry_learnt confirmed id entry)

-- the entries with this confirmed revision and this id, if the record is there
abbrev pub with_learnt : EntryMap → RecordName → RevisionValue → List ℕ → EntryMap
with_learnt map name confirmed id = learnt_at map name confirmed id (get map name)

-- ---- what is valid

-- what may be confirmed of a record with this row: none, or a revision that isn't above the row's
pub record IsUpTo (row : Row) (confirmed : RevisionValue) : Type 0 where
  pub known : IsNoneOrRevision confirmed
  pub within : confirmed ≼ row_revision row

-- the entry belongs to this record, and what it has confirmed may be confirmed
pub record IsEntryOf (name : RecordName) (entry : Entry) : Type 0 where
  pub named : row_name entry.row ≡ name
  pub confirmed : IsUpTo entry.row entry.confirmed

-- an entry under the name of its record
abbrev pub named : Entry → RecordName × Entry
named entry = (row_name entry.row, entry)

-- what each of these entries has confirmed may be confirmed
abbrev pub AreUpTo : List Entry → Type 0
AreUpTo list = All (λ entry. IsUpTo entry.row entry.confirmed) list

-- the list has all entries in order of their names, and each is valid
pub record IsListOf (map_ : EntryMap) (list : List Entry) : Type 0 where
  pub whole : entries map_ ≡ map named list
  pub lawful : AreUpTo list

-- the most records of a type
abbrev pub most_records : Kind → ℕ
most_records User = USER_LIMIT
most_records Group = GROUP_LIMIT

-- how many records of a type there are
abbrev pub count_of : Kind → List RecordName → ℕ
count_of kind names = count_by (λ name. same_kind kind name.kind) names

-- a row may be put if no higher revision is confirmed, its members are existing users, and there is room for a new
-- record
pub record CanPutRow (map : EntryMap) (row : Row) : Type 0 where
  pub not_below : (entry : Entry) → get map (row_name row) ≡ Some entry → entry.confirmed ≼ row_revision row
  pub members : All (λ key. IsSome (get map (user key))) (members_of row)
  pub room : get map (row_name row) ≡ None → count_of (row_name row).kind (keys map) < most_records (row_name row).kind

-- the rows may be put one after another, each into the entries that have the rows before it
abbrev pub CanPutRows : EntryMap → List Row → Type 0
CanPutRows map [] = Unit {0}
CanPutRows map (row ∷ rows) = CanPutRow map row × CanPutRows (with_row map row) rows

-- a revision may be confirmed for an existing record, if it is a revision and isn't above the row's
pub record CanPutLearnt (map : EntryMap) (name : RecordName) (confirmed : RevisionValue) : Type 0 where
  pub entry : Entry
  pub there : get map name ≡ Some entry
  pub confirms : IsRevision confirmed
  pub within : confirmed ≼ row_revision entry.row
