-- What a reset leaves of the tables: the row of each record, and nothing that was learnt of the provider.
use Rattle.std.specs.Prelude.{◌≡◌, ◌+◌, ◌-◌, ℕ, List, [], ◌∷◌, ◌++◌, codes, map, IsPermutation}
use Rattle.std.specs.FinMap.{get}
use Rattle.std.specs.Option.{option_map}
use Rattle.sqlite_value.specs.declared.value.Value.TheVariants.{Null}
use Rattle.sqlite_value.specs.Order.{Row, column}
use Rattle.sqlite_trees.specs.Tree.{Trees}
use Rattle.scim_key.specs.Revisions.{no_revision}
use Rattle.scim_key.specs.declared.records.Kind.{Kind}
use Rattle.scim_key.specs.declared.records.Kind.TheVariants.{User, Group}
use Rattle.scim_key.specs.declared.records.RecordName.{RecordName}
use Rattle.journal_core.specs.Entries.{EntryMap, IsListOf}
use Rattle.journal_core.specs.Forgetting.{forgotten, unlearnt}
use Rattle.journal_core.specs.declared.entries.Entry.{Entry}
use Rattle.journal_store.specs.Format.{column_count, entry_tree}
use Rattle.journal_store.specs.Tables.{places}
use Rattle.journal_store.specs.Rows.{epoch_value, revision_value}
use Rattle.journal_store.specs.Connections.{AreNumbered, ListsAll}
use Rattle.journal_store.specs.Opening.{AreLawful}

-- ---- entries

-- Each name has its entry, unlearnt, and no other name has an entry. The entries are valid as before, so that an
-- opening accepts them
pub record ForgetsOnly : Type 0 where
  pub each : (map_ : EntryMap) (name : RecordName) → get (forgotten map_) name ≡ option_map unlearnt (get map_ name)
  pub list : (map_ : EntryMap) (list : List Entry) → IsListOf map_ list → IsListOf (forgotten map_) (map unlearnt list)
  pub lawful : (users groups : List Entry) → AreLawful users groups
      → AreLawful (map unlearnt users) (map unlearnt groups)

-- ---- rows

-- the statement that resets the entries of a type
abbrev pub reset_text : Kind → List ℕ
reset_text User = codes "UPDATE user_entry_3 SET confirmed = ?1, id = NULL, confirmed_epoch = ?2"
reset_text Group = codes "UPDATE group_entry_3 SET confirmed = ?1, id = NULL, confirmed_epoch = ?2"

-- what is written of no revision: its number and its epoch, both 0
abbrev pub none_values : Row
none_values = revision_value no_revision ∷ epoch_value no_revision ∷ []

-- how many columns of a type's table come before those that a reset changes: all but the last four
abbrev pub kept_count : Kind → ℕ
kept_count kind = column_count kind - 4

-- the row with its number, its columns before the confirmed revision, and its epoch; no revision is confirmed, and the
-- id is NULL
abbrev pub reset_row : Kind → Row → Row
reset_row kind r =
    map (column r) (places 0 (1 + kept_count kind)) ++ revision_value no_revision ∷ Null
    ∷ column r (3 + kept_count kind) ∷ epoch_value no_revision ∷ []

-- the table of a type has its rows, each reset
abbrev pub Resets : Kind → (old new : Trees) → Type 0
Resets kind old new = IsPermutation (map (reset_row kind) (old (entry_tree kind))) (new (entry_tree kind))

-- the table of one type is reset, and the other table stays
pub record ResetsOne (kind : Kind) (old new : Trees) : Type 0 where
  pub resets : Resets kind old new
  pub users : kind ≡ Group → new (entry_tree User) ≡ old (entry_tree User)
  pub groups : kind ≡ User → new (entry_tree Group) ≡ old (entry_tree Group)

-- both tables are reset
pub record ResetsAll (old new : Trees) : Type 0 where
  pub users : Resets User old new
  pub groups : Resets Group old new

-- each row of a table has its own number, and the rows show a list of entries
pub record IsListed (kind : Kind) (db : Trees) : Type 0 where
  pub numbered : AreNumbered (db (entry_tree kind))
  pub list : List Entry
  pub shows : ListsAll kind db list

-- the same of both tables
pub record AreListed (db : Trees) : Type 0 where
  pub users : IsListed User db
  pub groups : IsListed Group db
