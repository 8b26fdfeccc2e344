-- What an opening looks for, what it finds, and what it leaves if it refuses.
use Rattle.std.specs.Prelude.{◌≡◌, ◌≢◌, ◌⊎◌, ◌≤◌, ℕ, ◌<◌, ℤ, pos, Bool, true, ◌||◌, List, [], ◌∷◌, None, IsTrue, length}
use Rattle.std.specs.Prelude.{is_some, map}
use Rattle.std.specs.FinMap.{empty}
use Rattle.std.specs.List.{AllByRecursion, list_all}
use Rattle.std.specs.List.Sorted.{IsStrictlySortedBy}
use Rattle.std.specs.Cmp.Lexicographic.{slice_cmp}
use Rattle.std.specs.Ordering.{int_cmp, nat_cmp}
use Rattle.sqlite_value.specs.declared.value.Value.TheVariants.{Int}
use Rattle.sqlite_value.specs.Order.{Row, column}
use Rattle.sqlite_trees.specs.Tree.{Trees}
use Rattle.sqlite_rules.specs.Lists.{Has}
use Rattle.sqlite_schema.specs.declared.schema.Column.{Column}
use Rattle.sqlite_schema.specs.declared.schema.Index.{Index}
use Rattle.sqlite_schema.specs.declared.schema.Table.{Table}
use Rattle.sqlite_schema.specs.declared.schema.Schema.{Schema}
use Rattle.sqlite.specs.State.{State}
use Rattle.scim_key.specs.Revisions.{no_revision, same_revision}
use Rattle.scim_key.specs.declared.records.Kind.{Kind}
use Rattle.scim_key.specs.declared.records.Kind.TheVariants.{User, Group}
use Rattle.source_csv.specs.Records.{row_name, members_of}
use Rattle.journal_core.specs.Entries.{EntryMap, most_records}
use Rattle.journal_core.specs.declared.entries.Entry.{Entry}
use Rattle.scim_key.specs.declared.stores.StoreFault.{StoreFault}
use Rattle.scim_key.specs.declared.stores.StoreFault.TheVariants as store
use Rattle.journal_store.specs.Tables.{EntryTable, index_of, key_places}
use Rattle.journal_store.specs.Older.Format.{first_schema}
use Rattle.journal_store.specs.Format.{format_number, journal_schema}
use Rattle.journal_store.specs.Format.{marked_schema}
use Rattle.journal_store.specs.Older.Format.{second_schema, second_tree}
use Rattle.journal_store.specs.Tables.{table_of}
use Rattle.journal_store.specs.Formats.{FormatData, current_format}
use Rattle.journal_store.specs.Older.Formats.{first_format, second_format}
use Rattle.sql_tables.specs.Layouts.{IsBlank, IsFormat, format_tree, IsLaid as IsLaidBy, IsOne, IsPlainTable, no_schema}
use Rattle.sql_tables.specs.Faults.{HasFailed}
use Rattle.journal_store.specs.Rows.{entries_by, entries_in}
use Rattle.journal_store.specs.Connections.{FailsToRise, HasNumbersBy, ListsAllBy, Shows}
use Rattle.journal_store.specs.declared.statements.TableFault.{TableFault}
use Rattle.journal_store.specs.declared.statements.TableFault.TheVariants as table
use Rattle.journal_store.specs.declared.opening.JournalOpenFault.{JournalOpenFault}
use Rattle.journal_store.specs.declared.opening.JournalOpenFault.TheVariants.{Store, Damaged, Memory, Newer}

-- ---- the tables

-- the table has its key, in any order of its index, and nothing else is declared for it
pub record IsKeyed (it : Table) : Type 0 where
  pub key : it.key ≡ None
  pub primary : it.primary ≡ key_places
  pub uniques : it.uniques ≡ key_places ∷ []
  pub checks : it.checks ≡ []
  pub plain : IsPlainTable it

-- the table of entries has this name, this tree and these columns
pub record IsEntryTable (name : List ℕ) (tree : ℕ) (columns : List Column) (it : Table) : Type 0 where
  pub name_is : it.name ≡ name
  pub tree_is : it.tree ≡ tree
  pub columns_are : it.columns ≡ columns
  pub keyed : IsKeyed it

-- this table of entries, and the index of its keys
abbrev pub IsKeyedTable : EntryTable → Table → Index → Type 0
IsKeyedTable entries table keys = (table ≡ table_of entries keys.order) × (keys ≡ index_of entries keys.order)

-- the schema has exactly the tables of the format
abbrev pub IsJournal : Schema → Type 0
IsJournal = IsOne journal_schema

-- the schema has exactly the tables of the second format
abbrev pub IsSecond : Schema → Type 0
IsSecond = IsOne second_schema

-- the schema has exactly the tables of the first format
abbrev pub IsFirst : Schema → Type 0
IsFirst = IsOne first_schema

-- the schema has exactly the tables of an older format
abbrev pub IsOlder : Schema → Type 0
IsOlder schema = IsSecond schema ⊎ IsFirst schema

-- the first table of the schema is that of the format
abbrev pub HasFormatTable : Schema → Type 0
HasFormatTable = IsOne marked_schema

-- ---- faults

abbrev pub open_fault : TableFault → JournalOpenFault
open_fault table.Store = Store
open_fault table.Damaged = Damaged
open_fault table.Memory = Memory

-- the journal's fault for a fault of a statement
abbrev pub table_fault : TableFault → StoreFault
table_fault table.Memory = store.Memory
table_fault fault = store.Store

-- the journal's fault for a fault of an opening
abbrev pub journal_fault : JournalOpenFault → StoreFault
journal_fault Memory = store.Memory
journal_fault fault = store.Store

-- a fault that reports a newer format, or damage, has that cause
abbrev pub IsFor : (newer damaged : Type 0) → JournalOpenFault → Type 0
IsFor newer damaged Newer = newer
IsFor newer damaged Damaged = damaged
IsFor newer damaged fault = Unit {0}

-- a fault that says that the store failed has this cause
abbrev pub OpenFailsFor : (failure : Type 0) → JournalOpenFault → Type 0
OpenFailsFor failure Store = failure
OpenFailsFor failure fault = Unit {0}

-- the rows that were read are of another format, or damaged
abbrev pub IsOfRows : JournalOpenFault → Type 0
IsOfRows Newer = Unit {0}
IsOfRows Damaged = Unit {0}
IsOfRows fault = ⊥

-- ---- the numbers of the rows

-- the rows of a result show rising numbers
pub record AreRising (rows : List Row) : Type 0 where
  pub numbers : List ℤ
  pub shown : map (λ (r : Row). column r 0) rows ≡ map Int numbers
  pub rising : IsStrictlySortedBy int_cmp numbers

-- a row shows no number, or the numbers don't rise
abbrev pub IsUnnumbered : List Row → Type 0
IsUnnumbered rows = ((r : Row) × Has rows r × ((n : ℤ) → column r 0 ≡ Int n → ⊥)) ⊎ FailsToRise rows

-- ---- the entries

-- nothing is confirmed of a record that has no id
abbrev pub is_identified : Entry → Bool
is_identified entry = same_revision entry.confirmed no_revision || is_some entry.id

-- the keys of the entries' records
abbrev pub keys_of : List Entry → List (List ℕ)
keys_of entries = map (λ (entry : Entry). (row_name entry.row).key) entries

-- keys rise, none of them repeated
abbrev pub AreInOrder : List (List ℕ) → Type 0
AreInOrder keys = IsStrictlySortedBy (slice_cmp nat_cmp) keys

-- each member of a group is an existing user
abbrev pub HasMembersOf : List (List ℕ) → Entry → Type 0
HasMembersOf keys group = AllByRecursion (Has keys) (members_of group.row)

-- the entries that a journal may have: as many as are allowed, each with an id if it has a confirmed revision, and with
-- members that are users
pub record AreLawful (users groups : List Entry) : Type 0 where
  pub few_users : length users ≤ most_records User
  pub few_groups : length groups ≤ most_records Group
  pub identified_users : list_all is_identified users ≡ true
  pub identified_groups : list_all is_identified groups ≡ true
  pub members : AllByRecursion (HasMembersOf (keys_of users)) groups

-- the tables of the format in these trees show these entries, one for each row, and the entries are valid
pub record HoldsEntriesBy (f : FormatData) (db : Trees) : Type 0 where
  pub users : List Entry
  pub groups : List Entry
  pub all_users : ListsAllBy (Shows User) (f.columns User) (db (f.tree User)) users
  pub all_groups : ListsAllBy (Shows Group) (f.columns Group) (db (f.tree Group)) groups
  pub lawful : AreLawful users groups

abbrev pub HoldsEntries : Trees → Type 0
HoldsEntries = HoldsEntriesBy current_format

-- ---- the store

-- the tables are of this format, and hold these entries
pub record IsStoreBy (f : FormatData) (s : State) (entries : EntryMap) : Type 0 where
  pub laid : IsLaidBy f.layout s
  pub format : IsFormat s f.number
  pub numbers : HasNumbersBy f.tree s.now.trees
  pub holds : HoldsEntriesBy f s.now.trees
  pub are : entries_by f.tree f.columns s.now.trees ≡ entries

-- the tables are of the current format, and hold these entries
abbrev pub IsStore : State → EntryMap → Type 0
IsStore = IsStoreBy current_format

-- the tables are of the second format, and hold these entries
abbrev pub IsSecondStore : State → EntryMap → Type 0
IsSecondStore = IsStoreBy second_format

-- the tables are of the first format, and hold these entries
abbrev pub IsFirstStore : State → EntryMap → Type 0
IsFirstStore = IsStoreBy first_format

-- the tables are of an older format, and hold these entries
abbrev pub IsOlderStore : State → EntryMap → Type 0
IsOlderStore s entries = IsSecondStore s entries ⊎ IsFirstStore s entries

-- what is in a store: the entries of its tables, of the current format or of an older one, or none if there are no
-- tables
abbrev pub Stands : State → EntryMap → Type 0
Stands s entries = IsStore s entries ⊎ (IsOlderStore s entries ⊎ (IsBlank s × (entries ≡ empty)))

-- ---- what is carried over

-- the tables of this format have no rows, nor have those of the second one
abbrev pub AreEmptied : FormatData → Trees → Type 0
AreEmptied f db = (kind : Kind) → (db (f.tree kind) ≡ []) × (db (second_tree kind) ≡ [])

-- the tables were of this format, with these entries, and are emptied
abbrev pub IsCarriedBy : FormatData → (old new : State) → EntryMap → Type 0
IsCarriedBy f old new entries = IsStoreBy f old entries × AreEmptied f new.now.trees

-- what an opening makes of what is in a store: the tables are of the current format, with its number, and hold these
-- entries. They did so before, or an older format was carried over and its tables are emptied, or there were no tables
pub record Becomes (old new : State) (entries : EntryMap) : Type 0 where
  pub stands : IsStore old entries
      ⊎ ((IsCarriedBy second_format old new entries ⊎ IsCarriedBy first_format old new entries)
      ⊎ (IsBlank old × (entries ≡ empty)))
  pub store : IsStore new entries

-- ---- what is refused

-- the table of the format has a number that is newer than the current format's
abbrev pub IsNewer : State → Type 0
IsNewer s = (number : ℕ) × (format_number < number) × IsFormat s number

-- there are tables, but not those of a format; a table of the format shows no number that is newer than the current
-- format's
pub record IsForeign (s : State) : Type 0 where
  pub stand : s.now.schema ≢ no_schema
  pub other : IsJournal s.now.schema → ⊥
  pub second : IsSecond s.now.schema → ⊥
  pub first : IsFirst s.now.schema → ⊥
  pub older : HasFormatTable s.now.schema → IsNewer s → ⊥

-- the tables aren't those of the format with this layout, or a transaction is open
abbrev pub IsNotLaidBy : {Form : Type 0} → (Form → Schema) → State → Type 0
IsNotLaidBy layout s = IsOne layout s.now.schema → s.in_transaction ≡ true

abbrev pub IsNotLaid : State → Type 0
IsNotLaid = IsNotLaidBy journal_schema

-- the table of the format shows no number that is the format's own, or newer than the current format's
abbrev pub IsUnmarkedBy : (own : ℕ) → State → Type 0
IsUnmarkedBy own s = (number : ℕ) → IsFormat s number → (number ≢ own) × (number ≤ format_number)

abbrev pub IsUnmarked : State → Type 0
IsUnmarked = IsUnmarkedBy format_number

-- the rows are invalid: some row has no number of its own, or the entries aren't valid
abbrev pub IsUnlawfulBy : FormatData → Trees → Type 0
IsUnlawfulBy f db = (HasNumbersBy f.tree db → ⊥) ⊎ (HoldsEntriesBy f db → ⊥)

abbrev pub IsUnlawful : Trees → Type 0
IsUnlawful = IsUnlawfulBy current_format

-- the tables have the number of the format, and the rows are invalid
pub record HasUnlawfulBy (f : FormatData) (s : State) : Type 0 where
  pub format : IsFormat s f.number
  pub rows : IsUnlawfulBy f s.now.trees

abbrev pub HasUnlawful : State → Type 0
HasUnlawful = HasUnlawfulBy current_format

-- the number of the format is invalid, or the rows are
abbrev pub ShowsDamageBy : FormatData → State → Type 0
ShowsDamageBy f s = IsUnmarkedBy f.number s ⊎ HasUnlawfulBy f s

abbrev pub ShowsDamage : State → Type 0
ShowsDamage = ShowsDamageBy current_format

-- the tables are of the format, but something in them is invalid
abbrev pub IsSpoiltBy : FormatData → State → Type 0
IsSpoiltBy f s = IsOne f.layout s.now.schema × ShowsDamageBy f s

abbrev pub IsSpoilt : State → Type 0
IsSpoilt = IsSpoiltBy current_format

abbrev pub IsSecondSpoilt : State → Type 0
IsSecondSpoilt = IsSpoiltBy second_format

abbrev pub IsFirstSpoilt : State → Type 0
IsFirstSpoilt = IsSpoiltBy first_format

-- the tables aren't a valid journal
abbrev pub IsDamaged : State → Type 0
IsDamaged s = IsForeign s ⊎ (IsSpoilt s ⊎ (IsSecondSpoilt s ⊎ IsFirstSpoilt s))

-- why an opening refuses a store
abbrev pub IsCause : State → JournalOpenFault → Type 0
IsCause s = IsFor (IsNewer s) (IsDamaged s)

-- why an opening says that the store failed: a transaction was open, the tables weren't there and couldn't be made,
-- those of an older format couldn't be carried over, or a statement that checks them failed
abbrev pub OpeningFails : (old new : State) → Type 0
OpeningFails old new = IsTrue old.in_transaction
    ⊎ ((old.now.schema ≡ no_schema) ⊎ ((IsSecond old.now.schema ⊎ IsFirst old.now.schema) ⊎ HasFailed old new))

-- why a reopening refuses the tables: they have the number of a newer format, or they aren't those of the current one,
-- or something in them is invalid
abbrev pub IsUnfit : State → Type 0
IsUnfit s = IsNewer s ⊎ (IsNotLaid s ⊎ IsSpoilt s)

-- a stop leaves no entry
abbrev pub LeavesNone : Trees → Type 0
LeavesNone db = entries_in db ≡ empty

-- a stop leaves the entries of the tables of this format, carried over: they are in the tables of the current format,
-- which have its number, and those of this format are emptied
pub record LeavesCarriedBy (f : FormatData) (s : State) (db : Trees) : Type 0 where
  pub entries : EntryMap
  pub stood : IsStoreBy f s entries
  pub are : entries_in db ≡ entries
  pub format : map (λ (r : Row). column r 2) (db format_tree) ≡ Int (pos format_number) ∷ []
  pub emptied : AreEmptied f db

-- a stop leaves the entries of the tables of an older format, carried over
abbrev pub LeavesCarried : State → Trees → Type 0
LeavesCarried s db = LeavesCarriedBy second_format s db ⊎ LeavesCarriedBy first_format s db

-- a stop leaves what stood: no entry if there were no tables, or else the entries of the older format
abbrev pub LeavesStanding : State → Trees → Type 0
LeavesStanding s db = ((s.now.schema ≡ no_schema) × LeavesNone db) ⊎ LeavesCarried s db
