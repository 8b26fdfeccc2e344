-- Where our columns are in a header, and what a record says in each of them.
use Rattle.std.specs.Prelude.{ℕ, List, [], Option, Some, None, codes, length, map, unwrap_or}
use denote.Ref.{Bor}
use Rattle.std.specs.List.{position}
use Rattle.std.specs.Str.{bytes_eq}
use Rattle.csv.specs.Records.{field_at}
use Rattle.scim_key.specs.declared.records.Kind.{Kind}
use Rattle.scim_key.specs.declared.records.Kind.TheVariants as kind
use Rattle.source_csv.specs.declared.columns.Columns.{Columns}
use Rattle.source_csv.specs.declared.columns.TheConstants.{FIRST_REVISION, GROUP_NAME_COLUMN, USER_NAME_COLUMN}
use Rattle.source_csv.specs.declared.texts.TheConstants.{TEXT_FIELDS}

-- a record of a file: its fields
abbrev pub Record : Type 0
Record = List (List ℕ)

-- the record whose fields are these names of columns
abbrev pub named : List (Bor (List ℕ)) → Record
named columns = map (λ column. column.now) columns

-- the columns of the texts of a user
abbrev pub text_columns : Record
text_columns = map (λ column. column.now) TEXT_FIELDS

-- the column of the name of a record of this kind
abbrev pub name_column : Kind → List ℕ
name_column kind.User = USER_NAME_COLUMN.now
name_column kind.Group = GROUP_NAME_COLUMN.now

-- Our columns in a header of that many columns, given where the column of each name is. The column of the revision is
-- given apart, since not every file has one.
abbrev pub columns_at : Kind → (count : ℕ) → (revision : Option ℕ) → (List ℕ → Option ℕ) → Columns
columns_at of count revision place = record {
  count = count;
  name = place (name_column of);
  revision = revision;
  texts = map place text_columns;
  status = place (codes "status");
  members = place (codes "members");
}

-- where the column of exactly this name is among these
abbrev pub place_named : Record → List ℕ → Option ℕ
place_named columns name = position (λ c. bytes_eq c name) columns

-- our columns in the header with these names, each under its own
abbrev pub columns_named : Kind → Record → Columns
columns_named of names = columns_at of (length names) (place_named names (codes "revision")) (place_named names)

-- ---- a record under a header

-- the field at a place; empty if there is none
abbrev pub field : Record → ℕ → List ℕ
field fields place = unwrap_or (field_at fields place) []

-- the field in a column that the header may have; without that column, this text
abbrev pub field_or : (absent : List ℕ) → Record → Option ℕ → List ℕ
field_or absent fields None = absent
field_or absent fields (Some place) = field fields place

abbrev pub name_in : Columns → Record → List ℕ
name_in columns fields = field_or [] fields columns.name

-- without the column, the first revision
abbrev pub revision_in : Columns → Record → List ℕ
revision_in columns fields = field_or FIRST_REVISION.now fields columns.revision

abbrev pub texts_in : Columns → Record → List (List ℕ)
texts_in columns fields = map (field_or [] fields) columns.texts

-- without the column, `active`
abbrev pub status_in : Columns → Record → List ℕ
status_in columns fields = field_or (codes "active") fields columns.status

abbrev pub members_in : Columns → Record → List ℕ
members_in columns fields = field_or [] fields columns.members
