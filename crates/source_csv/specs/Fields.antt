-- What the fields of a record say, and what a record is as a row: the first fault decides.
use Rattle.std.specs.Prelude.{◌≡◌, ℕ, Bool, true, false, List, [], ◌∷◌, Option, Some, None, Result, Ok, Err, if◌then◌else◌, ◌||◌, ◌&&◌, ◌==◌, nat_lt, length, map, codes, is_none}
use Rattle.std.specs.List.{list_all, list_any, slice_split}
use Rattle.std.specs.Option.{ok_or}
use Rattle.std.specs.Str.{bytes_eq, is_utf8}
use Rattle.scim_key.specs.Names.{group_name_fault, key_of, user_name_fault}
use Rattle.scim_key.specs.Outcome.{◌>>=◌}
use Rattle.scim_key.specs.declared.records.Kind.{Kind}
use Rattle.scim_key.specs.declared.records.Kind.TheVariants as kind
use Rattle.scim_key.specs.declared.records.RecordName.{RecordName}
use Rattle.scim_key.specs.Revisions as revisions
use Rattle.scim_key.specs.Revisions.{RevisionValue}
pub use Rattle.source_csv.specs.Columns.{Record, named}
use Rattle.source_csv.specs.Columns.{members_in, name_in, revision_in, status_in, texts_in}
use Rattle.source_csv.specs.Rows.{GroupFields, UserFields, precedes}
use Rattle.source_csv.specs.Texts.{is_short}
use Rattle.source_csv.specs.declared.groups.TheConstants.{MEMBER_LIMIT}
use Rattle.source_csv.specs.declared.columns.Columns.{Columns}
use Rattle.source_csv.specs.declared.faults.RowCode.{RowCode}
use Rattle.source_csv.specs.declared.faults.RowCode.TheVariants as code
use Rattle.source_csv.specs.declared.faults.Refusal.{Refusal}
use Rattle.source_csv.specs.declared.faults.Refusal.TheVariants.{Refused, Memory}

-- S3: every field is UTF-8
unfoldable pub read_texts : Record → Result Record RowCode
read_texts fields = if list_all is_utf8 fields then Ok fields else Err code.NotUtf8

-- S4: a login is a `userName`
unfoldable pub read_login : List ℕ → Result (List ℕ) RowCode
read_login text = if is_none (user_name_fault text) then Ok text else Err code.Name

-- S5: a revision is one that `scim_key` reads
unfoldable pub read_revision : List ℕ → Result RevisionValue RowCode
read_revision text = ok_or (revisions.read_revision text) code.Revision

-- S6: each text of a user has at most `VALUE_LIMIT` bytes
unfoldable pub read_values : List (List ℕ) → Result (List (List ℕ)) RowCode
read_values texts = if list_all is_short texts then Ok texts else Err code.Value

-- S6: a status is `active` or `left`
unfoldable pub read_status : List ℕ → Result Bool RowCode
read_status text =
    if bytes_eq text (codes "active") then Ok true else if bytes_eq text (codes "left") then Ok false
    else Err code.Value

-- a text of a user is too long
unfoldable pub SomeIsLong : List (List ℕ) → Type 0
SomeIsLong texts = list_all is_short texts ≡ false

-- the fields of a record of a user under a header with these columns, as a row
unfoldable pub read_user_fields : Columns → Record → Result UserFields RowCode
read_user_fields columns fields = do
  login ← read_login (name_in columns fields)
  revision ← read_revision (revision_in columns fields)
  texts ← read_values (texts_in columns fields)
  active ← read_status (status_in columns fields)
  Ok (record { login = login; revision = revision; texts = texts; active = active })

-- S4: the name of a group
unfoldable pub read_group_name : List ℕ → Result (List ℕ) RowCode
read_group_name text = if is_none (group_name_fault text) then Ok text else Err code.Name

-- the members' names: the texts between the spaces. An empty text has none
abbrev pub pieces : List ℕ → List (List ℕ)
pieces [] = []
pieces (b ∷ text) = slice_split (λ c. c == 32) (b ∷ text)

abbrev pub is_login : List ℕ → Bool
is_login text = is_none (user_name_fault text)

-- the key of a member
unfoldable pub read_member : List ℕ → Result (List ℕ) RowCode
read_member text = do
  name ← read_login text
  Ok (key_of name)

-- S4: each member is a `userName`, of which the row has the key
unfoldable pub read_members : List ℕ → Result (List (List ℕ)) RowCode
read_members text = if list_all is_login (pieces text) then Ok (map key_of (pieces text)) else Err code.Name

-- puts a key among keys that are in byte order
abbrev pub put : List ℕ → List (List ℕ) → List (List ℕ)
put key [] = key ∷ []
put key (next ∷ keys) = if precedes next key then next ∷ put key keys else key ∷ next ∷ keys

-- these keys in byte order
abbrev pub in_order : List (List ℕ) → List (List ℕ)
in_order [] = []
in_order (key ∷ keys) = put key (in_order keys)

-- whether some key is repeated
abbrev pub has_repeat : List (List ℕ) → Bool
has_repeat [] = false
has_repeat (key ∷ keys) = list_any (bytes_eq key) keys || has_repeat keys

-- S9: two members have the same key; S10: there are more than `MEMBER_LIMIT`
unfoldable pub read_keys : List (List ℕ) → Result (List (List ℕ)) RowCode
read_keys keys =
    if has_repeat keys then Err code.RepeatedMember
    else if nat_lt MEMBER_LIMIT (length keys) then Err code.TooManyMembers
    else Ok (in_order keys)

-- the fields of a record of a group under a header with these columns, as a row
unfoldable pub read_group_fields : Columns → Record → Result GroupFields RowCode
read_group_fields columns fields = do
  name ← read_group_name (name_in columns fields)
  keys ← read_members (members_in columns fields)
  revision ← read_revision (revision_in columns fields)
  sorted ← read_keys keys
  Ok (record { name = name; revision = revision; members = sorted })

-- A record under a header with these columns, read by its fields. S2: the number of fields is wrong.
abbrev pub read_under : {X : Type 0} → (Columns → Record → Result X RowCode) → Columns → Record
    → Result X RowCode
read_under reads columns fields =
    if length fields == columns.count then (read_texts fields >>= λ texts. reads columns texts)
    else Err code.FieldCount

unfoldable pub read_user : Columns → Record → Result UserFields RowCode
read_user columns fields = read_under read_user_fields columns fields

unfoldable pub read_group : Columns → Record → Result GroupFields RowCode
read_group columns fields = read_under read_group_fields columns fields

-- ---- the name of a record

-- S4: the key of the name of a record of this kind
unfoldable pub read_key : Kind → List ℕ → Result (List ℕ) RowCode
read_key kind.User text = read_member text
read_key kind.Group text = do
  name ← read_group_name text
  Ok (key_of name)

-- the name with this key; none if there is a fault in place of the key
abbrev pub name_with : Kind → Result (List ℕ) RowCode → Option RecordName
name_with of (Ok key) = Some (record { kind = of; key = key })
name_with of (Err fault) = None

-- The name of a record under a header with these columns, whatever else is wrong with it. There is none if the number
-- of fields is wrong, since its columns may then be shifted, or if the field of the name is no name.
unfoldable pub name_of : Kind → Columns → Record → Option RecordName
name_of of columns fields =
    if (length fields == columns.count) && is_utf8 (name_in columns fields)
    then name_with of (read_key of (name_in columns fields)) else None

-- ---- the results of readers

-- the result is exactly what is read, or out of memory
abbrev pub Reads : {X : Type 0} → Result X Refusal → Result X RowCode → Type 0
Reads (Ok x) answer = answer ≡ Ok x
Reads (Err (Refused c)) answer = answer ≡ Err c
Reads (Err Memory) answer = Unit {0}

-- the same for a view of the result's value
abbrev pub ReadsBy : {X Y : Type 0} → (X → Y) → Result X Refusal → Result Y RowCode → Type 0
ReadsBy view (Ok x) answer = answer ≡ Ok (view x)
ReadsBy view (Err (Refused c)) answer = answer ≡ Err c
ReadsBy view (Err Memory) answer = Unit {0}

-- a refusal with this code, for this reason, or out of memory
abbrev pub RefusedFor : RowCode → Type 0 → Refusal → Type 0
RefusedFor code Reason (Refused c) = (c ≡ code) × Reason
RefusedFor code Reason Memory = Unit {0}
