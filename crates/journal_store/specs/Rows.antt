-- The rows of the tables of entries, and the entries that they show.
use Rattle.std.specs.Prelude.{ℕ, zero, suc, ◌+◌, ℤ, pos, Bool, true, false, if◌then◌else◌, List, [], ◌∷◌, ◌++◌, map, flat_map, Option, Some, None}
use Rattle.std.specs.FinMap.{from_entries}
use Rattle.std.specs.List.{join_with_byte}
use Rattle.std.specs.Option.{option_and_then, option_map}
use Rattle.std.specs.Str.{IsUtf8}
use Rattle.sqlite_value.specs.declared.value.Value.{Value}
use Rattle.sqlite_value.specs.declared.value.Value.TheVariants.{Null, Int, Real, Text, Blob}
use Rattle.sqlite_value.specs.Order.{Row, column}
use Rattle.sqlite_trees.specs.Tree.{Trees}
use Rattle.scim_key.specs.Identifiers.{IsId}
use Rattle.scim_key.specs.Revisions.{RevisionValue, confirmed_of_parts, revision_epoch, revision_number, revision_of_parts}
use Rattle.scim_key.specs.Records.{same_name}
use Rattle.scim_key.specs.declared.records.Kind.{Kind}
use Rattle.scim_key.specs.declared.records.Kind.TheVariants as kind
use Rattle.scim_key.specs.declared.records.RecordName.{RecordName}
use Rattle.source_csv.specs.Fields.{pieces}
use Rattle.source_csv.specs.Records.{row_name}
use Rattle.source_csv.specs.Rows.{text_of}
use Rattle.source_csv.specs.declared.rows.Row as source
use Rattle.source_csv.specs.declared.rows.Row.TheVariants.{User, Group}
use Rattle.source_csv.specs.declared.texts.TheConstants.{TEXT_FIELD_COUNT}
use Rattle.journal_core.specs.Entries.{EntryMap, named}
use Rattle.journal_core.specs.declared.entries.Entry.{Entry}
use Rattle.journal_store.specs.Format.{column_count, entry_tree}
use Rattle.journal_store.specs.Tables.{places}
use Rattle.journal_store.specs.declared.format.TheConstants.{TEXT_ORDER}
use Rattle.journal_store.specs.declared.places.TheConstants.{ACTIVE, CONFIRMED_EPOCH, EPOCH, FIRST_TEXT, GROUP_CONFIRMED, ID, KEY, MEMBERS, NAME, REVISION, USER_CONFIRMED}

-- ---- how an entry is written

-- an id, or NULL for none
abbrev pub id_value : Option (List ℕ) → Value
id_value None = Null
id_value (Some id) = Text id

-- the number of a revision, and its epoch; both are 0 for no revision
abbrev pub revision_value : RevisionValue → Value
revision_value r = Int (pos (revision_number r))

abbrev pub epoch_value : RevisionValue → Value
epoch_value r = Int (pos (revision_epoch r))

abbrev pub active_number : Bool → ℕ
active_number true = 1
active_number false = 0

-- the keys of the members, separated by spaces
abbrev pub members_text : List (List ℕ) → List ℕ
members_text keys = join_with_byte 32 keys

-- the key, the fields of the row, the confirmed revision, the id, and the epochs of both revisions
abbrev pub row_by : source.Row → RevisionValue → Option (List ℕ) → Row
row_by (User u) confirmed id =
    Text (row_name (User u)).key ∷ Text u.login ∷ revision_value u.revision
    ∷ (map (λ which. Text (text_of u which)) TEXT_ORDER ++ Int (pos (active_number u.active))
    ∷ revision_value confirmed ∷ id_value id ∷ epoch_value u.revision ∷ epoch_value confirmed ∷ [])
row_by (Group g) confirmed id =
    Text (row_name (Group g)).key ∷ Text g.name ∷ revision_value g.revision ∷ Text (members_text g.members)
    ∷ revision_value confirmed ∷ id_value id ∷ epoch_value g.revision ∷ epoch_value confirmed ∷ []

abbrev pub row_of : Entry → Row
row_of e = row_by e.row e.confirmed e.id

-- ---- which entry a row shows

abbrev pub text_in : Value → Option (List ℕ)
text_in Null = None
text_in (Int n) = None
text_in (Real x) = None
text_in (Text t) = Some t
text_in (Blob b) = None

abbrev pub natural : ℤ → Option ℕ
natural (pos n) = Some n
natural n = None

abbrev pub number_in : Value → Option ℕ
number_in Null = None
number_in (Int n) = natural n
number_in (Real x) = None
number_in (Text t) = None
number_in (Blob b) = None

-- the revision that is made of both parts, if each is a number
abbrev pub parts_in : (epoch number : Value) → (ℕ → ℕ → Option RevisionValue) → Option RevisionValue
parts_in epoch number of = option_and_then (λ e. option_and_then (of e) (number_in number)) (number_in epoch)

abbrev pub revision_in : (epoch number : Value) → Option RevisionValue
revision_in epoch number = parts_in epoch number revision_of_parts

-- 0 and 0 are no revision
abbrev pub confirmed_in : (epoch number : Value) → Option RevisionValue
confirmed_in epoch number = parts_in epoch number confirmed_of_parts

abbrev pub active_of : ℕ → Option Bool
active_of zero = Some false
active_of (suc zero) = Some true
active_of (suc (suc n)) = None

abbrev pub active_in : Value → Option Bool
active_in v = option_and_then active_of (number_in v)

abbrev pub id_in : Value → Option (Option (List ℕ))
id_in Null = Some None
id_in (Int n) = None
id_in (Real x) = None
id_in (Text t) = Some (Some t)
id_in (Blob b) = None

-- the texts between the spaces; an empty text has no members
abbrev pub members_in : Value → Option (List (List ℕ))
members_in v = option_map pieces (text_in v)

-- one column after the other, up to the first without its form
infixl 10 ◌>>=◌
abbrev ◌>>=◌ : {A B : Type 0} → Option A → (A → Option B) → Option B
o >>= f = option_and_then f o

-- the columns at these places
abbrev pub columns_at : List ℕ → Row → Row
columns_at at r = map (column r) at

-- the columns with the texts of a user
unfoldable pub text_columns : Row → List Value
text_columns r = columns_at (places FIRST_TEXT TEXT_FIELD_COUNT) r

abbrev pub all_texts : List Value → Option (List (List ℕ))
all_texts [] = Some []
all_texts (v ∷ vs) = do
  text ← text_in v
  texts ← all_texts vs
  Some (text ∷ texts)

unfoldable pub texts_in : Row → Option (List (List ℕ))
texts_in r = all_texts (text_columns r)

abbrev pub user_in : Row → Option source.Row
user_in r = do
  login ← text_in (column r NAME)
  revision ← revision_in (column r (USER_CONFIRMED + EPOCH)) (column r REVISION)
  texts ← texts_in r
  active ← active_in (column r ACTIVE)
  Some (User (record { login = login; revision = revision; texts = texts; active = active }))

abbrev pub group_in : Row → Option source.Row
group_in r = do
  name ← text_in (column r NAME)
  revision ← revision_in (column r (GROUP_CONFIRMED + EPOCH)) (column r REVISION)
  members ← members_in (column r MEMBERS)
  Some (Group (record { name = name; revision = revision; members = members }))

-- the row of the source
abbrev pub source_in : Kind → Row → Option source.Row
source_in kind.User r = user_in r
source_in kind.Group r = group_in r

abbrev pub entry_by : Option source.Row → Option RevisionValue → Option (Option (List ℕ)) → Option Entry
entry_by row confirmed id = do
  source ← row
  revision ← confirmed
  given ← id
  Some (record { row = source; confirmed = revision; id = given })

abbrev pub fields_in : Kind → Row → Option Entry
fields_in kind.User r =
    entry_by (user_in r) (confirmed_in (column r (USER_CONFIRMED + CONFIRMED_EPOCH))
    (column r USER_CONFIRMED)) (id_in (column r (USER_CONFIRMED + ID)))
fields_in kind.Group r =
    entry_by (group_in r) (confirmed_in (column r (GROUP_CONFIRMED + CONFIRMED_EPOCH))
    (column r GROUP_CONFIRMED)) (id_in (column r (GROUP_CONFIRMED + ID)))

-- the entry, if it is of the record with this key
abbrev pub keyed : Kind → List ℕ → Option Entry → Option Entry
keyed type key None = None
keyed type key (Some e) = if same_name (row_name e.row) (record { kind = type; key = key }) then Some e else None

-- The entry that a row of a query shows, if each column has its form and the key is that of the name
abbrev pub entry_in : Kind → Row → Option Entry
entry_in type r = option_and_then (λ key. keyed type key (fields_in type r)) (text_in (column r KEY))

-- ---- texts

-- a text is UTF-8
abbrev pub IsReadable : Value → Type 0
IsReadable Null = Unit {0}
IsReadable (Int n) = Unit {0}
IsReadable (Real x) = Unit {0}
IsReadable (Text t) = IsUtf8 t
IsReadable (Blob b) = Unit {0}

-- the texts of the row of the source
abbrev pub texts_of : Kind → Row → List Value
texts_of kind.User r = column r NAME ∷ text_columns r
texts_of kind.Group r = column r NAME ∷ column r MEMBERS ∷ []

-- a valid id, or none
abbrev pub IsLawfulId : Option (List ℕ) → Type 0
IsLawfulId None = Unit {0}
IsLawfulId (Some id) = IsId id × IsUtf8 id

-- ---- the entries of the tables

-- the columns of a row that the queries show: all but its number
abbrev pub shown_row : Kind → Row → Row
shown_row type r = columns_at (places 1 (column_count type)) r

abbrev pub named_if : Option Entry → List (RecordName × Entry)
named_if None = []
named_if (Some e) = named e ∷ []

-- the entries of one table, of which a query shows these columns, each under its name
abbrev pub named_by : (columns : Row → Row) → Kind → List Row → List (RecordName × Entry)
named_by columns type table = flat_map (λ r. named_if (entry_in type (columns r))) table

-- the entries of the tables in these trees, of which the queries show these columns
unfoldable pub entries_by : (tree : Kind → ℕ) (columns : Kind → Row → Row) → Trees → EntryMap
entries_by tree columns db =
    from_entries (named_by (columns kind.User) kind.User (db (tree kind.User))
    ++ named_by (columns kind.Group) kind.Group (db (tree kind.Group)))

abbrev pub named_in : Kind → List Row → List (RecordName × Entry)
named_in type = named_by (shown_row type) type

-- the entries of both tables
abbrev pub entries_in : Trees → EntryMap
entries_in = entries_by entry_tree shown_row
