-- What the statements require of a connection, and what they leave of it.
use Rattle.std.specs.Prelude.{◌≡◌, ◌⊎◌, ◌+◌, ℕ, ℤ, Bool, true, false, List, [], ◌∷◌, ◌++◌, Option, Some, None, Result, Ok, OnErr, OnOk, IsTrue, IsPermutation, MatchOption, filter, map}
use Rattle.std.specs.List.{AllByRecursion, AllZip}
use Rattle.std.specs.List.Sorted.{IsSorted, IsStrictlySortedBy}
use Rattle.scim_key.specs.Records.{name_cmp}
use Rattle.std.specs.Ordering.{is_eq, is_lt}
use Rattle.sqlite_value.specs.declared.value.Value.TheVariants.{Int, Text}
use Rattle.sqlite_value.specs.Order.{Row, column, value_cmp}
use Rattle.sqlite_trees.specs.Tree.{Trees, rowid, has_rowid, put_row, without_rowid}
use Rattle.sqlite_rules.specs.Edit.{is_taken}
use Rattle.sqlite_rules.specs.Lists.{Has}
use Rattle.sqlite.specs.State.{State, HasCleanDisk, Survives}
use Rattle.sqlite.specs.Effect.{Reads}
use Rattle.sqlite.specs.Listing.{understood}
use Rattle.sqlite_resolve.specs.declared.compiled.Compiled.{Compiled}
use Rattle.scim_key.specs.Revisions.{◌≼◌}
use Rattle.scim_key.specs.declared.records.Kind.{Kind}
use Rattle.scim_key.specs.declared.records.Kind.TheVariants.{User, Group}
use Rattle.scim_key.specs.declared.records.RecordName.{RecordName}
use Rattle.source_csv.specs.Records.{IsRow, row_name, row_revision}
use Rattle.source_csv.specs.declared.rows.Row as source
use Rattle.journal_core.specs.declared.entries.Entry.{Entry}
use Rattle.sql_tables.specs.Layouts.{IsLaid as IsLaidBy}
use Rattle.sqlite_schema.specs.declared.schema.Schema.{Schema}
use Rattle.sql_tables.specs.Statements.{IsEditText as IsEditOf, Keeps}
use Rattle.journal_store.specs.Format.{entry_tree, insert_text, journal_schema, update_text}
use Rattle.journal_store.specs.declared.places.TheConstants.{CONFIRMED_EPOCH, ID, KEY}
use Rattle.journal_store.specs.Rows.{IsLawfulId, IsReadable, confirmed_in, entry_in, id_in, row_of, shown_row, source_in, texts_of}

-- ---- the tables of a connection

-- the tables are laid out, and no transaction is open
abbrev pub IsLaid : State → Type 0
IsLaid = IsLaidBy journal_schema

-- ---- entries

-- the row of a query shows this valid row of the source
pub record ShowsSource (kind : Kind) (shown : Row) (row : source.Row) : Type 0 where
  pub row_is : source_in kind shown ≡ Some row
  pub lawful : IsRow row
  pub texts : AllByRecursion IsReadable (texts_of kind shown)

-- from this column on, the row shows the rest of the entry with this source row: its confirmed revision, which isn't
-- above the source row's, and its id; the epochs of both revisions come last
pub record ShowsRest (kind : Kind) (shown : Row) (row : source.Row) (after : ℕ) (entry : Entry) : Type 0 where
  pub row_is : entry.row ≡ row
  pub key : column shown KEY ≡ Text (row_name row).key
  pub kind_is : (row_name row).kind ≡ kind
  pub confirmed : confirmed_in (column shown (after + CONFIRMED_EPOCH)) (column shown after) ≡ Some entry.confirmed
  pub id_is : id_in (column shown (after + ID)) ≡ Some entry.id
  pub id : IsLawfulId entry.id
  pub within : entry.confirmed ≼ row_revision row

-- the row shows this valid entry: its source row and its id are valid, and its confirmed revision isn't above the
-- source row's
pub record Shows (kind : Kind) (shown : Row) (entry : Entry) : Type 0 where
  pub entry_is : entry_in kind shown ≡ Some entry
  pub key : column shown KEY ≡ Text (row_name entry.row).key
  pub kind_is : (row_name entry.row).kind ≡ kind
  pub lawful : IsRow entry.row
  pub texts : AllByRecursion IsReadable (texts_of kind shown)
  pub id : IsLawfulId entry.id
  pub within : entry.confirmed ≼ row_revision entry.row

-- the row shows no valid entry
abbrev pub ShowsNone : Kind → Row → Type 0
ShowsNone kind shown = (entry : Entry) → Shows kind shown entry → ⊥

-- whether a row of a table has this key
abbrev pub has_key : List ℕ → Row → Bool
has_key key r = is_eq (value_cmp (column r 1) (Text key))

-- the one row of this name
abbrev pub Finds : Trees → RecordName → Option Entry → Type 0
Finds db name None = filter (has_key name.key) (db (entry_tree name.kind)) ≡ []
Finds db name (Some entry) =
    (r : Row) × (filter (has_key name.key) (db (entry_tree name.kind)) ≡ r ∷ [])
    × Shows name.kind (shown_row name.kind r) entry

-- what the rows with a name show: at most one row
abbrev pub IsOnly : Kind → List Row → Option Entry → Type 0
IsOnly kind rows None = rows ≡ []
IsOnly kind rows (Some entry) = (r : Row) × (rows ≡ r ∷ []) × Shows kind r entry

-- the last of some names
abbrev pub last_name : List RecordName → Option RecordName
last_name [] = None
last_name (name ∷ []) = Some name
last_name (name ∷ next ∷ names) = last_name (next ∷ names)

-- a row comes right after another whose first column isn't below its own
pub record FailsToRise (rows : List Row) : Type 0 where
  pub front : List Row
  pub first : Row
  pub second : Row
  pub back : List Row
  pub is : rows ≡ front ++ first ∷ second ∷ back
  pub not_below : is_lt (value_cmp (column first 0) (column second 0)) ≡ false

-- the row shows no valid entry, or one whose name doesn't come after the previous one
abbrev pub IsNotNext : Kind → Option RecordName → Row → Type 0
IsNotNext kind previous row =
    ((entry : Entry) → Shows kind row entry → ⊥)
    ⊎ ((entry : Entry) × Shows kind row entry
    × MatchOption previous ⊥ (λ p. is_lt (name_cmp p (row_name entry.row)) ≡ false))

-- given which valid entry a row shows
module _ (Valid : Row → Entry → Type 0) where
  -- the rows show these entries, one after the other, in order of their names
  pub record AreShownBy (rows : List Row) (list : List Entry) : Type 0 where
    pub each : AllZip Valid rows list
    pub rising : IsStrictlySortedBy name_cmp (map (λ (entry : Entry). row_name entry.row) list)

  -- a row shows no valid entry, or the keys don't rise
  abbrev pub IsUnshownBy : List Row → Type 0
  IsUnshownBy rows = ((r : Row) × Has rows r × ((entry : Entry) → Valid r entry → ⊥)) ⊎ FailsToRise rows

  -- the entries are those of all rows of a table, of which a query shows these columns
  pub record ListsAllBy (columns : Row → Row) (table : List Row) (list : List Entry) : Type 0 where
    pub rows : List Row
    pub all : IsPermutation (map columns table) rows
    pub shown : AreShownBy rows list

  -- no list has the entries of all rows of the table
  abbrev pub ListsNoneBy : (Row → Row) → List Row → Type 0
  ListsNoneBy columns table = (list : List Entry) → ListsAllBy columns table list → ⊥

-- the query shows these columns of each row of a table, in order of the first
abbrev pub Lists : {Form : Type 0} → (Form → Schema) → (tree : ℕ) → (columns : Row → Row) → List ℕ → Type 0
Lists {Form} layout tree columns sql = (form : Form) (trees : Trees) (c : Compiled) (rows : List Row)
    → understood (layout form) sql ≡ Ok c → Reads c.command (record { schema = layout form; trees = trees }) [] rows
    → IsPermutation (map columns (trees tree)) rows × IsSorted (λ (a b : Row). value_cmp (column a 0) (column b 0)) rows

abbrev pub AreShown : Kind → List Row → List Entry → Type 0
AreShown kind = AreShownBy (Shows kind)

abbrev pub IsUnshown : Kind → List Row → Type 0
IsUnshown kind = IsUnshownBy (Shows kind)

abbrev pub ListsAll : Kind → Trees → List Entry → Type 0
ListsAll kind db = ListsAllBy (Shows kind) (shown_row kind) (db (entry_tree kind))

abbrev pub ListsNone : Kind → Trees → Type 0
ListsNone kind db = ListsNoneBy (Shows kind) (shown_row kind) (db (entry_tree kind))

-- each row has a number that no other row has
abbrev pub AreNumbered : List Row → Type 0
AreNumbered table = (r : Row) → Has table r → (n : ℤ) × (rowid r ≡ Int n) × (filter (has_rowid n) table ≡ r ∷ [])

pub record HasNumbersBy (tree : Kind → ℕ) (db : Trees) : Type 0 where
  pub users : AreNumbered (db (tree User))
  pub groups : AreNumbered (db (tree Group))

abbrev pub HasNumbers : Trees → Type 0
HasNumbers = HasNumbersBy entry_tree

-- ---- a write

-- the text is one INSERT or one UPDATE, without RETURNING and without the time
abbrev pub IsEditText : List ℕ → Type 0
IsEditText = IsEditOf journal_schema

-- the one INSERT or UPDATE that puts an entry
abbrev pub put_text : Bool → Kind → List ℕ
put_text false kind = insert_text kind
put_text true kind = update_text kind

-- an entry as it is stored, with this number
abbrev pub stored_row : ℤ → Entry → Row
stored_row n entry = Int n ∷ row_of entry

-- a row of this entry is added with a free number, or replaces the only row with its key
abbrev pub Puts : Bool → Entry → (old new : List Row) → Type 0
Puts false entry old new = (n : ℤ) × (is_taken old (stored_row n entry) ≡ false)
    × (new ≡ put_row (stored_row n entry) old)
Puts true entry old new =
    (r : Row) × (n : ℤ) × (rowid r ≡ Int n) × (filter (has_key (row_name entry.row).key) old ≡ r ∷ [])
    × (new ≡ put_row (stored_row n entry) (without_rowid n old))

-- the entry is put into its table, and the other table stays
pub record PutsIn (is_there : Bool) (entry : Entry) (old new : Trees) : Type 0 where
  pub lawful : IsRow entry.row
  pub puts : Puts is_there entry (old (entry_tree (row_name entry.row).kind))
      (new (entry_tree (row_name entry.row).kind))
  pub users : (row_name entry.row).kind ≡ Group → new (entry_tree User) ≡ old (entry_tree User)
  pub groups : (row_name entry.row).kind ≡ User → new (entry_tree Group) ≡ old (entry_tree Group)

-- the tables are changed in this way, and the change is committed
pub record Commits (Changes : Trees → Trees → Type 0) (old new : State) : Type 0 where
  pub was_open : IsTrue old.is_open
  pub is_open : IsTrue new.is_open
  pub laid : IsLaid new
  pub puts : Changes old.now.trees new.now.trees

-- A call that changes the tables in this way, by one commit. If it fails, they stay; a stop leaves them as they were,
-- or changed
pub record ChangesOnce {T F : Type 0} (Changes : Trees → Trees → Type 0) (old new : State) (result : Result T F)
    : Type 0 where
  pub made : HasCleanDisk new → OnOk result (Commits Changes old new)
  pub keeps : HasCleanDisk new → OnErr result (Keeps old new)
  pub stop : Survives old new (λ db. IsTrue old.is_open × Changes old.now.trees db)

-- the entry is put and committed
abbrev pub Makes : Bool → Entry → (old new : State) → Type 0
Makes is_there entry = Commits (PutsIn is_there entry)

-- the only row with this key is there, with a number of its own
pub record IsThere (db : Trees) (name : RecordName) : Type 0 where
  pub row : Row
  pub number : ℤ
  pub numbered : rowid row ≡ Int number
  pub keyed : column row 1 ≡ Text name.key
  pub only : filter (has_key name.key) (db (entry_tree name.kind)) ≡ row ∷ []
