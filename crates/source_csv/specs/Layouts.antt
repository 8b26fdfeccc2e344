-- How the header of a snapshot names our columns.
use Rattle.std.specs.Prelude.{ℕ, Bool, List, Option, Some, None, ◌&&◌, not, nat_le, codes, length, filter, if◌then◌else◌, string_bytes}
use Rattle.std.specs.List.{count_by, find, list_all, list_any, position}
use Rattle.std.specs.Str.{bytes_eq}
use Rattle.scim_key.specs.Names.{key_of}
use Rattle.scim_key.specs.declared.records.Kind.{Kind}
use Rattle.scim_key.specs.declared.records.Kind.TheVariants as kind
use Rattle.source_csv.specs.Columns.{Record, columns_at, name_column}
use Rattle.source_csv.specs.Texts.{column_of}
use Rattle.source_csv.specs.declared.columns.Columns.{Columns}
use Rattle.source_csv.specs.declared.columns.TheConstants.{GROUP_NAME_COLUMN, USER_NAME_COLUMN}
use Rattle.source_csv.specs.declared.layouts.Alias.{Alias}
use Rattle.source_csv.specs.declared.layouts.Column.{Column}
use Rattle.source_csv.specs.declared.layouts.Column.TheVariants.{Login, Text, Status, Name, Members}
use Rattle.source_csv.specs.declared.layouts.TheConstants.{GROUP_SNAPSHOT, USER_SNAPSHOT}

-- the name of a column of ours
abbrev pub column_name : Column → List ℕ
column_name Login = USER_NAME_COLUMN.now
column_name (Text text) = column_of text
column_name Status = codes "status"
column_name Name = GROUP_NAME_COLUMN.now
column_name Members = codes "members"

-- the columns that a snapshot of this kind may have; it must have that of the name
abbrev pub snapshot_columns : Kind → List Column
snapshot_columns kind.User = USER_SNAPSHOT
snapshot_columns kind.Group = GROUP_SNAPSHOT

-- the column of a snapshot of this kind with this name
abbrev pub column_named : Kind → List ℕ → Option Column
column_named of name = find (λ column. bytes_eq (column_name column) name) (snapshot_columns of)

-- whether two names of columns are one in any case of ASCII letters
abbrev pub same_name : List ℕ → List ℕ → Bool
same_name one other = bytes_eq (key_of one) (key_of other)

-- an alias says that our column of this name has another name in the header
abbrev pub renames : List ℕ → Alias → Bool
renames ours alias = bytes_eq (column_name alias.column) ours

-- an alias says that our column of this name has that name in the header
abbrev pub names_it : List ℕ → List ℕ → Alias → Bool
names_it ours theirs alias = renames ours alias && same_name (string_bytes alias.named) theirs

-- a column of the header with that name is our column of this name: by an alias, or if ours has none, by its own name
abbrev pub is_taken_for : List Alias → (ours theirs : List ℕ) → Bool
is_taken_for aliases ours theirs =
    if list_any (renames ours) aliases then list_any (names_it ours theirs) aliases else same_name ours theirs

-- a column of the header with this name is one of ours
abbrev pub is_ours : Kind → List Alias → (theirs : List ℕ) → Bool
is_ours of aliases theirs =
    list_any (λ column. is_taken_for aliases (column_name column) theirs) (snapshot_columns of)

-- the name in an alias is one of the names of a header
abbrev pub is_in_header : Record → Alias → Bool
is_in_header header alias = list_any (same_name (string_bytes alias.named)) header

-- our column of this name is in a header at most once
abbrev pub is_once_at_most : List Alias → Record → (ours : List ℕ) → Bool
is_once_at_most aliases header ours = nat_le (count_by (is_taken_for aliases ours) header) 1

-- A record is the header of a snapshot of this kind: it has the name of each alias, none of our columns twice, and that
-- of the name.
abbrev pub is_snapshot_header : Kind → List Alias → Record → Bool
is_snapshot_header of aliases header =
    list_all (is_in_header header) aliases
    && list_all (λ column. is_once_at_most aliases header (column_name column)) (snapshot_columns of)
    && list_any (is_taken_for aliases (name_column of)) header

-- our columns in the header of a snapshot, which has no revisions
abbrev pub snapshot_places : Kind → List Alias → Record → Columns
snapshot_places of aliases header =
    columns_at of (length header) None (λ ours. position (is_taken_for aliases ours) header)

-- the same; none if the record isn't the header of a snapshot of this kind
abbrev pub snapshot_columns_of : Kind → List Alias → Record → Option Columns
snapshot_columns_of of aliases header =
    if is_snapshot_header of aliases header then Some (snapshot_places of aliases header) else None

-- the names of the columns of a header that aren't ours
abbrev pub ignored_in : Kind → List Alias → Record → Record
ignored_in of aliases header = filter (λ theirs. not (is_ours of aliases theirs)) header
