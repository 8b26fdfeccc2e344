-- What a row changes: the columns of its file whose fields aren't those of the row before.
use Rattle.std.specs.Prelude.{ℕ, Bool, false, not, List, [], ◌∷◌, ◌++◌, Option, Some, None, codes, filter}
use Rattle.std.specs.List.{flat_map}
use Rattle.std.specs.Str.{bytes_eq}
use Rattle.source_csv.specs.Layouts.{column_name}
use Rattle.source_csv.specs.Rows.{GroupFields, UserFields, text_of}
use Rattle.source_csv.specs.declared.layouts.Column.{Column}
use Rattle.source_csv.specs.declared.layouts.Column.TheVariants as column
use Rattle.source_csv.specs.declared.layouts.TheConstants.{GROUP_SNAPSHOT, USER_SNAPSHOT}
use Rattle.source_csv.specs.declared.rows.Row.{Row}
use Rattle.source_csv.specs.declared.rows.Row.TheVariants.{User, Group}

-- ---- the columns

-- the columns of the file that the row is in, in their order
abbrev pub columns_of : Row → List Column
columns_of (User row) = USER_SNAPSHOT
columns_of (Group row) = GROUP_SNAPSHOT

-- whether a user's field in this column is another one; that of the status isn't asked, since a line says it
abbrev pub is_changed_user : (before after : UserFields) → Column → Bool
is_changed_user before after column.Login = not (bytes_eq before.login after.login)
is_changed_user before after (column.Text text) = not (bytes_eq (text_of before text) (text_of after text))
is_changed_user before after column.Status = false
is_changed_user before after column.Name = false
is_changed_user before after column.Members = false

-- whether a group's field in this column is another one; that of the members isn't asked, since a line counts them
abbrev pub is_changed_group : (before after : GroupFields) → Column → Bool
is_changed_group before after column.Login = false
is_changed_group before after (column.Text text) = false
is_changed_group before after column.Status = false
is_changed_group before after column.Name = not (bytes_eq before.name after.name)
is_changed_group before after column.Members = false

abbrev pub is_changed : (before after : Row) → Column → Bool
is_changed (User before) (User after) column = is_changed_user before after column
is_changed (User before) (Group after) column = false
is_changed (Group before) (User after) column = false
is_changed (Group before) (Group after) column = is_changed_group before after column

-- the changed columns but the status and the members, in the order of the columns
abbrev pub changes_of : (before after : Row) → List Column
changes_of before after = filter (is_changed before after) (columns_of after)

-- the same; none if no row before is known
abbrev pub changes_from : (before : Option Row) → (after : Row) → List Column
changes_from None after = []
changes_from (Some before) after = changes_of before after

-- ---- their text

-- `, mail, department`
abbrev pub more_text : List Column → List ℕ
more_text columns = flat_map (λ column. codes ", " ++ column_name column) columns

-- `: given, mail, department`; nothing if there is no column
abbrev pub changes_text : List Column → List ℕ
changes_text [] = []
changes_text (column ∷ columns) = codes ": " ++ (column_name column ++ more_text columns)
