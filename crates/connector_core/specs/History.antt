-- The history of the source: the rows that were accepted.
use Rattle.std.specs.Prelude.{◌≡◌, ℕ, Bool, true, not, List, [], ◌∷◌, Option, Some, None, is_some}
use Rattle.std.specs.List.{AllByRecursion, filter, last_or, list_all, position_from}
pub use Rattle.scim_key.specs.Records.{same_kind, same_name}
use Rattle.scim_key.specs.Revisions.{RevisionValue, no_revision, ◌≺◌}
use Rattle.scim_key.specs.declared.records.RecordName.{RecordName}
use Rattle.source_csv.specs.Records.{row_name, row_revision}
pub use Rattle.source_csv.specs.Records.{user, members_of}
use Rattle.source_csv.specs.declared.rows.Row.{Row}

-- all accepted rows, in the order in which they were accepted
abbrev pub History : Type 0
History = List Row

-- the accepted rows of a record, in order
abbrev pub rows_of : History → RecordName → List Row
rows_of history name = filter (λ row. same_name (row_name row) name) history

-- the last row of a record, if there is one
abbrev pub last_row : History → RecordName → Option Row
last_row history name = last_or None (rows_of history name)

-- whether the history has a user record with this key
abbrev pub is_user : History → List ℕ → Bool
is_user history key = is_some (last_row history (user key))

-- the place, from 0, of a row's first member by key that isn't a user record of the history
abbrev pub missing_member : History → Row → Option ℕ
missing_member history row = position_from (λ key. not (is_user history key)) 0 (members_of row)

-- the revision of a row, if there is one
abbrev pub revision_if : Option Row → RevisionValue
revision_if None = no_revision
revision_if (Some row) = row_revision row

-- the revision that the source wants of a record: the revision of its last row
abbrev pub wanted : History → RecordName → RevisionValue
wanted history name = revision_if (last_row history name)

-- every member of a row is a user record of the history
abbrev pub AllAreUsers : History → Row → Type 0
AllAreUsers history row = list_all (is_user history) (members_of row) ≡ true

-- every member of every row is a user record of the history
abbrev pub MembersAreUsers : History → Type 0
MembersAreUsers history = AllByRecursion (AllAreUsers history) history

-- each row has a higher revision than all rows before it
abbrev pub Rises : List Row → Type 0
Rises [] = Unit {0}
Rises (row ∷ rows) = AllByRecursion (λ later. row_revision row ≺ row_revision later) rows × Rises rows

-- the rows of each record rise
abbrev pub AllRise : History → Type 0
AllRise history = (name : RecordName) → Rises (rows_of history name)
