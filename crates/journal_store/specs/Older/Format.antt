-- The tables of the older formats of a journal, the statements on them, and those that carry them over.
use Rattle.std.specs.Prelude.{ℕ, ◌+◌, List, [], ◌∷◌, codes}
use Rattle.sqlite_value.specs.declared.keys.Order.{Order}
use Rattle.sqlite_sql.specs.Term.{Term}
use Rattle.sqlite_schema.specs.declared.schema.Column.{Column}
use Rattle.sqlite_schema.specs.declared.schema.Schema.{Schema}
use Rattle.sqlite_schema.specs.declared.schema.Kind.TheVariants.{Integer, Text}
use Rattle.sql_tables.specs.Layouts.{format_table, optional, required}
use Rattle.source_csv.specs.declared.texts.TheConstants.{TEXT_FIELD_COUNT}
use Rattle.scim_key.specs.declared.records.Kind.{Kind}
use Rattle.scim_key.specs.declared.records.Kind.TheVariants.{User, Group}
use Rattle.journal_store.specs.Tables.{EntryTable, format_name, index_of, table_of}
use Rattle.journal_store.specs.declared.older.moving.Moved.{Moved}
use Rattle.journal_store.specs.declared.older.moving.Moved.TheVariants.{FirstUsers, SecondGroups, SecondUsers}

-- the number of the second format, from which a journal is carried over
abbrev pub second_number : ℕ
second_number = 2

-- the number of the first format, from which a journal is carried over to the second
abbrev pub first_number : ℕ
first_number = 1

-- the columns of the users of the first format: a user has no department, and a revision no epoch
abbrev pub first_user_columns : List Column
first_user_columns =
    required (codes "name_key") Text ∷ required (codes "login") Text
    ∷ required (codes "revision") Integer ∷ required (codes "number") Text
    ∷ required (codes "given") Text ∷ required (codes "family") Text ∷ required (codes "mail") Text
    ∷ required (codes "active") Integer
    ∷ required (codes "confirmed") Integer ∷ optional (codes "id") Text ∷ []

-- the columns of the users of the second format: a revision has no epoch
abbrev pub second_user_columns : List Column
second_user_columns =
    required (codes "name_key") Text ∷ required (codes "login") Text
    ∷ required (codes "revision") Integer ∷ required (codes "number") Text
    ∷ required (codes "given") Text ∷ required (codes "family") Text ∷ required (codes "mail") Text
    ∷ required (codes "department") Text
    ∷ required (codes "active") Integer ∷ required (codes "confirmed") Integer ∷ optional (codes "id") Text ∷ []

-- the columns of the groups of both these formats
abbrev pub first_group_columns : List Column
first_group_columns =
    required (codes "name_key") Text ∷ required (codes "name") Text
    ∷ required (codes "revision") Integer ∷ required (codes "members") Text
    ∷ required (codes "confirmed") Integer ∷ optional (codes "id") Text ∷ []

-- the tables of entries, in the order in which they are made: those of the first format, that of the users of the
-- second one, and those of the current one
abbrev pub first_users : EntryTable
first_users =
    record {
      name = codes "user_entry";
      index = codes "sqlite_autoindex_user_entry_1";
      tree = 1;
      columns = first_user_columns;
    }

abbrev pub first_groups : EntryTable
first_groups =
    record {
      name = codes "group_entry";
      index = codes "sqlite_autoindex_group_entry_1";
      tree = 3;
      columns = first_group_columns;
    }

abbrev pub second_users : EntryTable
second_users =
    record {
      name = codes "user_entry_2";
      index = codes "sqlite_autoindex_user_entry_2_1";
      tree = 5;
      columns = second_user_columns;
    }

abbrev pub second_tables : Kind → EntryTable
second_tables User = second_users
second_tables Group = first_groups

abbrev pub first_tables : Kind → EntryTable
first_tables User = first_users
first_tables Group = first_groups

abbrev pub second_tree : Kind → ℕ
second_tree kind = (second_tables kind).tree

abbrev pub first_tree : Kind → ℕ
first_tree kind = (first_tables kind).tree

-- how many it has in the second format
abbrev pub second_count : Kind → ℕ
second_count User = 6 + TEXT_FIELD_COUNT
second_count Group = 6

-- what SQLite chooses of the tables of the first format: the terms of the CHECK of the format, and the orders of the
-- indexes
pub record FirstForm : Type 0 where
  pub format_checks : List Term
  pub users : Order
  pub groups : Order

abbrev pub first_schema : FirstForm → Schema
first_schema form =
    record {
      tables = format_table format_name form.format_checks ∷ table_of first_users form.users
          ∷ table_of first_groups form.groups ∷ [];
      indexes = index_of first_users form.users ∷ index_of first_groups form.groups ∷ [];
      views = [];
    }

-- the same of the tables of the first format, and of the table that was added
pub record SecondForm : Type 0 where
  pub first : FirstForm
  pub users : Order

-- the tables of the first format, of which that of the users isn't used, and the table of the users
abbrev pub second_schema : SecondForm → Schema
second_schema form =
    record {
      tables =
          format_table format_name form.first.format_checks ∷ table_of first_users form.first.users
          ∷ table_of first_groups form.first.groups
          ∷ table_of second_users form.users ∷ [];
      indexes = index_of first_users form.first.users ∷ index_of first_groups form.first.groups
          ∷ index_of second_users form.users ∷ [];
      views = [];
    }

abbrev pub format_text : List ℕ
format_text =
    codes "CREATE TABLE IF NOT EXISTS journal_format (one INTEGER PRIMARY KEY CHECK (one = 1), number INTEGER NOT NULL)"

abbrev pub mark_text : List ℕ
mark_text = codes "INSERT INTO journal_format (one, number) VALUES (1, ?1)"

-- the table of the users of the second format
abbrev pub create_second_text : List ℕ
create_second_text =
    codes "CREATE TABLE user_entry_2 (name_key TEXT PRIMARY KEY NOT NULL, login TEXT NOT NULL, revision INTEGER NOT NULL, number TEXT NOT NULL, given TEXT NOT NULL, family TEXT NOT NULL, mail TEXT NOT NULL, department TEXT NOT NULL, active INTEGER NOT NULL, confirmed INTEGER NOT NULL, id TEXT)"

-- the tables of the first format
abbrev pub create_first_text : Kind → List ℕ
create_first_text User =
    codes "CREATE TABLE user_entry (name_key TEXT PRIMARY KEY NOT NULL, login TEXT NOT NULL, revision INTEGER NOT NULL, number TEXT NOT NULL, given TEXT NOT NULL, family TEXT NOT NULL, mail TEXT NOT NULL, active INTEGER NOT NULL, confirmed INTEGER NOT NULL, id TEXT)"
create_first_text Group =
    codes "CREATE TABLE group_entry (name_key TEXT PRIMARY KEY NOT NULL, name TEXT NOT NULL, revision INTEGER NOT NULL, members TEXT NOT NULL, confirmed INTEGER NOT NULL, id TEXT)"

abbrev pub second_numbers_text : Kind → List ℕ
second_numbers_text User = codes "SELECT rowid FROM user_entry_2 ORDER BY rowid"
second_numbers_text Group = codes "SELECT rowid FROM group_entry ORDER BY rowid"

-- each row is shown as the current format has it, with epochs of 0
abbrev pub second_all_text : Kind → List ℕ
second_all_text User =
    codes "SELECT name_key, login, revision, number, given, family, mail, department, active, confirmed, id, 0, 0 FROM user_entry_2 ORDER BY name_key"
second_all_text Group =
    codes "SELECT name_key, name, revision, members, confirmed, id, 0, 0 FROM group_entry ORDER BY name_key"

abbrev pub first_numbers_text : Kind → List ℕ
first_numbers_text User = codes "SELECT rowid FROM user_entry ORDER BY rowid"
first_numbers_text Group = second_numbers_text Group

-- a user is also shown with an empty department
abbrev pub first_all_text : Kind → List ℕ
first_all_text User =
    codes "SELECT name_key, login, revision, number, given, family, mail, '', active, confirmed, id, 0, 0 FROM user_entry ORDER BY name_key"
first_all_text Group = second_all_text Group

-- the rows of a table up to a number are copied to the table of the next format, and deleted
abbrev pub copy_part_text : Moved → List ℕ
copy_part_text FirstUsers =
    codes "INSERT INTO user_entry_2 (name_key, login, revision, number, given, family, mail, department, active, confirmed, id) SELECT name_key, login, revision, number, given, family, mail, '', active, confirmed, id FROM user_entry WHERE rowid <= ?1"
copy_part_text SecondUsers =
    codes "INSERT INTO user_entry_3 (name_key, login, revision, number, given, family, mail, department, active, confirmed, id, epoch, confirmed_epoch) SELECT name_key, login, revision, number, given, family, mail, department, active, confirmed, id, 0, 0 FROM user_entry_2 WHERE rowid <= ?1"
copy_part_text SecondGroups =
    codes "INSERT INTO group_entry_3 (name_key, name, revision, members, confirmed, id, epoch, confirmed_epoch) SELECT name_key, name, revision, members, confirmed, id, 0, 0 FROM group_entry WHERE rowid <= ?1"

abbrev pub empty_part_text : Moved → List ℕ
empty_part_text FirstUsers = codes "DELETE FROM user_entry WHERE rowid <= ?1"
empty_part_text SecondUsers = codes "DELETE FROM user_entry_2 WHERE rowid <= ?1"
empty_part_text SecondGroups = codes "DELETE FROM group_entry WHERE rowid <= ?1"

-- so are all of them
abbrev pub copy_text : Moved → List ℕ
copy_text FirstUsers =
    codes "INSERT INTO user_entry_2 (name_key, login, revision, number, given, family, mail, department, active, confirmed, id) SELECT name_key, login, revision, number, given, family, mail, '', active, confirmed, id FROM user_entry"
copy_text SecondUsers =
    codes "INSERT INTO user_entry_3 (name_key, login, revision, number, given, family, mail, department, active, confirmed, id, epoch, confirmed_epoch) SELECT name_key, login, revision, number, given, family, mail, department, active, confirmed, id, 0, 0 FROM user_entry_2"
copy_text SecondGroups =
    codes "INSERT INTO group_entry_3 (name_key, name, revision, members, confirmed, id, epoch, confirmed_epoch) SELECT name_key, name, revision, members, confirmed, id, 0, 0 FROM group_entry"

abbrev pub empty_text : Moved → List ℕ
empty_text FirstUsers = codes "DELETE FROM user_entry"
empty_text SecondUsers = codes "DELETE FROM user_entry_2"
empty_text SecondGroups = codes "DELETE FROM group_entry"

abbrev pub remark_text : List ℕ
remark_text = codes "UPDATE journal_format SET number = ?1 WHERE one = 1"
