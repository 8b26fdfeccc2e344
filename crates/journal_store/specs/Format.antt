-- The tables of a journal, as SQLite keeps them, and the statements on them.
use Rattle.std.specs.Prelude.{ℕ, ◌+◌, List, [], ◌∷◌, ◌++◌, codes}
use Rattle.sqlite_value.specs.declared.keys.Order.{Order}
use Rattle.sqlite_sql.specs.Term.{Term}
use Rattle.sqlite_schema.specs.declared.schema.Column.{Column}
use Rattle.sqlite_schema.specs.declared.schema.Table.{Table}
use Rattle.sqlite_schema.specs.declared.schema.Index.{Index}
use Rattle.sqlite_schema.specs.declared.schema.Schema.{Schema}
use Rattle.sqlite_schema.specs.declared.schema.View.{View}
use Rattle.sqlite_schema.specs.declared.schema.Kind.TheVariants.{Integer}
use Rattle.sql_tables.specs.Layouts.{format_table, required}
use Rattle.source_csv.specs.declared.texts.TheConstants.{TEXT_FIELD_COUNT}
use Rattle.scim_key.specs.declared.records.Kind.{Kind}
use Rattle.scim_key.specs.declared.records.Kind.TheVariants.{User, Group}
use Rattle.journal_store.specs.Tables.{EntryTable, format_name, index_of, table_of}
use Rattle.journal_store.specs.Older.Format.{SecondForm, first_group_columns, first_groups, first_users, second_user_columns, second_users}

-- the number of the format
abbrev pub format_number : ℕ
format_number = 3

-- the epochs of the row's revision and of the confirmed one
abbrev pub epoch_columns : List Column
epoch_columns = required (codes "epoch") Integer ∷ required (codes "confirmed_epoch") Integer ∷ []

abbrev pub third_users : EntryTable
third_users =
    record {
      name = codes "user_entry_3";
      index = codes "sqlite_autoindex_user_entry_3_1";
      tree = 7;
      columns = second_user_columns ++ epoch_columns;
    }

abbrev pub third_groups : EntryTable
third_groups =
    record {
      name = codes "group_entry_3";
      index = codes "sqlite_autoindex_group_entry_3_1";
      tree = 9;
      columns = first_group_columns ++ epoch_columns;
    }

-- the tables with the entries of a type of record, in the current format, in the second one, and in the first one
abbrev pub entry_tables : Kind → EntryTable
entry_tables User = third_users
entry_tables Group = third_groups

-- the tree with the entries of a type of record, in each format
abbrev pub entry_tree : Kind → ℕ
entry_tree kind = (entry_tables kind).tree

-- the place of a type's table among the tables
abbrev pub entry_place : Kind → ℕ
entry_place User = 4
entry_place Group = 5

-- how many columns a type's table has
abbrev pub column_count : Kind → ℕ
column_count User = 8 + TEXT_FIELD_COUNT
column_count Group = 8

-- the same of the tables of the second format, and of the tables that were added
pub record Form : Type 0 where
  pub second : SecondForm
  pub users : Order
  pub groups : Order

-- the tables of the second format, whose entries aren't used, and the tables of the entries
abbrev pub journal_schema : Form → Schema
journal_schema form =
    record {
      tables =
          format_table format_name form.second.first.format_checks
          ∷ table_of first_users form.second.first.users ∷ table_of first_groups form.second.first.groups
          ∷ table_of second_users form.second.users ∷ table_of third_users form.users
          ∷ table_of third_groups form.groups ∷ [];
      indexes =
          index_of first_users form.second.first.users ∷ index_of first_groups form.second.first.groups
          ∷ index_of second_users form.second.users
          ∷ index_of third_users form.users ∷ index_of third_groups form.groups ∷ [];
      views = [];
    }

-- what follows the table of the format, and the terms of its CHECK
pub record MarkedForm : Type 0 where
  pub format_checks : List Term
  pub tables : List Table
  pub indexes : List Index
  pub views : List View

-- the table of the format, and any tables after it
abbrev pub marked_schema : MarkedForm → Schema
marked_schema form =
    record {
      tables = format_table format_name form.format_checks ∷ form.tables;
      indexes = form.indexes;
      views = form.views;
    }

abbrev pub create_text : Kind → List ℕ
create_text User =
    codes "CREATE TABLE user_entry_3 (name_key TEXT PRIMARY KEY NOT NULL, login TEXT NOT NULL, revision INTEGER NOT NULL, number TEXT NOT NULL, given TEXT NOT NULL, family TEXT NOT NULL, mail TEXT NOT NULL, department TEXT NOT NULL, active INTEGER NOT NULL, confirmed INTEGER NOT NULL, id TEXT, epoch INTEGER NOT NULL, confirmed_epoch INTEGER NOT NULL)"
create_text Group =
    codes "CREATE TABLE group_entry_3 (name_key TEXT PRIMARY KEY NOT NULL, name TEXT NOT NULL, revision INTEGER NOT NULL, members TEXT NOT NULL, confirmed INTEGER NOT NULL, id TEXT, epoch INTEGER NOT NULL, confirmed_epoch INTEGER NOT NULL)"

abbrev pub marked_text : List ℕ
marked_text = codes "SELECT number FROM journal_format"

-- the query for the numbers of the rows
abbrev pub numbers_text : Kind → List ℕ
numbers_text User = codes "SELECT rowid FROM user_entry_3 ORDER BY rowid"
numbers_text Group = codes "SELECT rowid FROM group_entry_3 ORDER BY rowid"

abbrev pub find_text : Kind → List ℕ
find_text User =
    codes "SELECT name_key, login, revision, number, given, family, mail, department, active, confirmed, id, epoch, confirmed_epoch FROM user_entry_3 WHERE name_key = ?1"
find_text Group =
    codes "SELECT name_key, name, revision, members, confirmed, id, epoch, confirmed_epoch FROM group_entry_3 WHERE name_key = ?1"

abbrev pub all_text : Kind → List ℕ
all_text User =
    codes "SELECT name_key, login, revision, number, given, family, mail, department, active, confirmed, id, epoch, confirmed_epoch FROM user_entry_3 ORDER BY name_key"
all_text Group =
    codes "SELECT name_key, name, revision, members, confirmed, id, epoch, confirmed_epoch FROM group_entry_3 ORDER BY name_key"

abbrev pub insert_text : Kind → List ℕ
insert_text User =
    codes "INSERT INTO user_entry_3 (name_key, login, revision, number, given, family, mail, department, active, confirmed, id, epoch, confirmed_epoch) VALUES (?1, ?2, ?3, ?4, ?5, ?6, ?7, ?8, ?9, ?10, ?11, ?12, ?13)"
insert_text Group =
    codes "INSERT INTO group_entry_3 (name_key, name, revision, members, confirmed, id, epoch, confirmed_epoch) VALUES (?1, ?2, ?3, ?4, ?5, ?6, ?7, ?8)"

abbrev pub update_text : Kind → List ℕ
update_text User =
    codes "UPDATE user_entry_3 SET login = ?2, revision = ?3, number = ?4, given = ?5, family = ?6, mail = ?7, department = ?8, active = ?9, confirmed = ?10, id = ?11, epoch = ?12, confirmed_epoch = ?13 WHERE name_key = ?1"
update_text Group =
    codes "UPDATE group_entry_3 SET name = ?2, revision = ?3, members = ?4, confirmed = ?5, id = ?6, epoch = ?7, confirmed_epoch = ?8 WHERE name_key = ?1"
