-- What carrying a journal over from one format to the next makes of its tables.
use Rattle.std.specs.Prelude.{◌≡◌, ℕ, List, [], ◌∷◌, ◌++◌, IsPermutation, map}
use Rattle.std.specs.List.{AllByRecursion}
use Rattle.sqlite_value.specs.Order.{Row}
use Rattle.sqlite_trees.specs.Tree.{Trees}
use Rattle.sqlite_rules.specs.Lists.{Has}
use Rattle.sqlite.specs.State.{State}
use Rattle.sqlite_schema.specs.declared.schema.Schema.{Schema}
use Rattle.scim_key.specs.declared.records.Kind.{Kind}
use Rattle.scim_key.specs.declared.records.Kind.TheVariants.{User, Group}
use Rattle.journal_core.specs.declared.entries.Entry.{Entry}
use Rattle.sql_tables.specs.Layouts.{format_tree}
use Rattle.journal_store.specs.Connections.{AreNumbered, Shows}
use Rattle.journal_store.specs.Tables.{EntryTable}
use Rattle.journal_store.specs.Format.{entry_tree, third_groups, third_users}
use Rattle.journal_store.specs.Older.Format.{first_groups, first_users, second_tree, second_users}
use Rattle.journal_store.specs.Opening.{IsJournal, IsSecond}
use Rattle.journal_store.specs.Older.Rows.{first_row, second_row}
use Rattle.journal_store.specs.Rows.{shown_row}
use Rattle.journal_store.specs.declared.older.moving.Moved.{Moved}
use Rattle.journal_store.specs.declared.older.moving.Moved.TheVariants.{FirstUsers, SecondGroups, SecondUsers}

-- a table is copied: what a query shows of the copies is what another query shows of the rows, and each copy has a
-- number of its own
pub record IsCopied (sent kept : Row → Row) (old new : List Row) : Type 0 where
  pub shown : IsPermutation (map sent old) (map kept new)
  pub numbered : AreNumbered new

-- the tables in these trees stay
abbrev pub Stay : List ℕ → (old new : Trees) → Type 0
Stay trees old new = AllByRecursion (λ tree. new tree ≡ old tree) trees

-- each row of a table shows a valid entry, as a query shows these columns
abbrev pub ShowsEach : Kind → (columns : Row → Row) → List Row → Type 0
ShowsEach kind columns table = (r : Row) → Has table r → (e : Entry) × Shows kind (columns r) e

-- ---- the tables are made

-- the tables of the entries are there, beside those of the second format, and each is empty
pub record MakesTables (old new : State) : Type 0 where
  pub journal : IsJournal new.now.schema
  pub empty : (kind : Kind) → new.now.trees (entry_tree kind) ≡ []
  pub seconds : (kind : Kind) → new.now.trees (second_tree kind) ≡ old.now.trees (second_tree kind)
  pub others : Stay (format_tree ∷ first_users.tree ∷ []) old.now.trees new.now.trees

-- ---- a table is moved

-- a table of an older format, and the table of the next format to which its rows are moved
abbrev pub moved_out_of : Moved → EntryTable
moved_out_of FirstUsers = first_users
moved_out_of SecondUsers = second_users
moved_out_of SecondGroups = first_groups

abbrev pub moved_into : Moved → EntryTable
moved_into FirstUsers = second_users
moved_into SecondUsers = third_users
moved_into SecondGroups = third_groups

-- their trees
abbrev pub moved_from : Moved → ℕ
moved_from table = (moved_out_of table).tree

abbrev pub moved_to : Moved → ℕ
moved_to table = (moved_into table).tree

-- the trees of the other tables
abbrev pub unmoved : Moved → List ℕ
unmoved FirstUsers = format_tree ∷ first_groups.tree ∷ []
unmoved SecondUsers = format_tree ∷ first_users.tree ∷ first_groups.tree ∷ third_groups.tree ∷ []
unmoved SecondGroups = format_tree ∷ first_users.tree ∷ second_users.tree ∷ third_users.tree ∷ []

abbrev pub moved_kind : Moved → Kind
moved_kind FirstUsers = User
moved_kind SecondUsers = User
moved_kind SecondGroups = Group

-- what the queries of both formats show of a row
abbrev pub sent_row : Moved → Row → Row
sent_row FirstUsers = first_row User
sent_row SecondUsers = second_row User
sent_row SecondGroups = second_row Group

abbrev pub kept_row : Moved → Row → Row
kept_row FirstUsers = second_row User
kept_row SecondUsers = shown_row User
kept_row SecondGroups = shown_row Group

-- the schema has both tables
abbrev pub HasBoth : Moved → Schema → Type 0
HasBoth FirstUsers = IsSecond
HasBoth SecondUsers = IsJournal
HasBoth SecondGroups = IsJournal

-- some rows are moved from one table to another: both together show what they showed, each row has a number of its own,
-- and no row is added to the table from which they are moved
pub record AreMoved (sent kept : Row → Row) (old_from old_to new_from new_to : List Row) : Type 0 where
  pub shown : IsPermutation (map sent old_from ++ map kept old_to) (map sent new_from ++ map kept new_to)
  pub left_numbered : AreNumbered new_from
  pub numbered : AreNumbered new_to
  pub among : (r : Row) → Has new_from r → Has old_from r

-- the rows of a table can be moved
pub record CanMove (table : Moved) (s : State) : Type 0 where
  pub both : HasBoth table s.now.schema
  pub left_numbered : AreNumbered (s.now.trees (moved_from table))
  pub numbered : AreNumbered (s.now.trees (moved_to table))
  pub shown : ShowsEach (moved_kind table) (sent_row table) (s.now.trees (moved_from table))

-- some rows of a table are moved
pub record Moves (table : Moved) (old new : State) : Type 0 where
  pub both : HasBoth table new.now.schema
  pub moved : AreMoved (sent_row table) (kept_row table) (old.now.trees (moved_from table))
      (old.now.trees (moved_to table)) (new.now.trees (moved_from table)) (new.now.trees (moved_to table))
  pub others : Stay (unmoved table) old.now.trees new.now.trees

-- all of them are moved
pub record MovesAll (table : Moved) (old new : State) : Type 0 where
  pub moves : Moves table old new
  pub none : new.now.trees (moved_from table) ≡ []
