-- What the queries show of the rows of the older formats: each with the columns of the current one.
use Rattle.std.specs.Prelude.{pos, [], ◌∷◌, ◌++◌}
use Rattle.sqlite_value.specs.declared.value.Value.TheVariants.{Int, Text}
use Rattle.sqlite_value.specs.Order.{Row}
use Rattle.scim_key.specs.declared.records.Kind.{Kind}
use Rattle.scim_key.specs.declared.records.Kind.TheVariants as kind
use Rattle.journal_store.specs.Tables.{places}
use Rattle.journal_store.specs.Older.Format.{second_count}
use Rattle.journal_store.specs.Rows.{columns_at}

-- the epochs that the queries of the older formats show
abbrev pub no_epochs : Row
no_epochs = Int (pos 0) ∷ Int (pos 0) ∷ []

-- the columns of a row of the second format, as the queries show them: the epochs of its revisions are 0
abbrev pub second_row : Kind → Row → Row
second_row type r = columns_at (places 1 (second_count type)) r ++ no_epochs

-- the columns of a row of the first format, as the queries show them: a user also has an empty department
abbrev pub first_row : Kind → Row → Row
first_row kind.User r = columns_at (places 1 7) r ++ Text [] ∷ columns_at (places 8 3) r ++ no_epochs
first_row kind.Group r = second_row kind.Group r
