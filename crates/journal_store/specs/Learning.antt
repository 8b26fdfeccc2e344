-- What is learnt of a record of the provider, as it is written into the record's row.
use Rattle.std.specs.Prelude.{◌≡◌, ◌+◌, ℤ, List, ℕ, [], ◌∷◌, ◌++◌, codes, filter, map}
use Rattle.sqlite_value.specs.declared.value.Value.TheVariants.{Int, Text}
use Rattle.sqlite_value.specs.Order.{Row, column}
use Rattle.sqlite_trees.specs.Tree.{Trees, rowid, put_row, without_rowid}
use Rattle.scim_key.specs.Revisions.{RevisionValue}
use Rattle.scim_key.specs.declared.records.Kind.{Kind}
use Rattle.scim_key.specs.declared.records.Kind.TheVariants.{User, Group}
use Rattle.scim_key.specs.declared.records.RecordName.{RecordName}
use Rattle.journal_store.specs.Format.{entry_tree}
use Rattle.journal_store.specs.Tables.{places}
use Rattle.journal_store.specs.Rows.{epoch_value, revision_value}
use Rattle.journal_store.specs.Connections.{has_key}
use Rattle.journal_store.specs.Resets.{kept_count}

-- the statement that writes what was learnt of a record of a type
abbrev pub learn_text : Kind → List ℕ
learn_text User = codes "UPDATE user_entry_3 SET confirmed = ?2, id = ?3, confirmed_epoch = ?4 WHERE name_key = ?1"
learn_text Group = codes "UPDATE group_entry_3 SET confirmed = ?2, id = ?3, confirmed_epoch = ?4 WHERE name_key = ?1"

-- the key of the record, and what was learnt of it
abbrev pub learnt_values : (key : List ℕ) → RevisionValue → (id : List ℕ) → Row
learnt_values key confirmed id = Text key ∷ revision_value confirmed ∷ Text id ∷ epoch_value confirmed ∷ []

-- the row with its number, its columns before the confirmed revision, and its epoch; this revision is confirmed, and
-- the id is this
abbrev pub learnt_row : Kind → RevisionValue → (id : List ℕ) → Row → Row
learnt_row kind confirmed id r =
    map (column r) (places 0 (1 + kept_count kind)) ++ revision_value confirmed ∷ Text id
    ∷ column r (3 + kept_count kind) ∷ epoch_value confirmed ∷ []

-- what was learnt is in the only row with the record's key; all else of that row stays, and so does the other table
pub record Learns (name : RecordName) (confirmed : RevisionValue) (id : List ℕ) (old new : Trees) : Type 0 where
  pub row : Row
  pub number : ℤ
  pub numbered : rowid row ≡ Int number
  pub only : filter (has_key name.key) (old (entry_tree name.kind)) ≡ row ∷ []
  pub learns : new (entry_tree name.kind)
      ≡ put_row (learnt_row name.kind confirmed id row) (without_rowid number (old (entry_tree name.kind)))
  pub users : name.kind ≡ Group → new (entry_tree User) ≡ old (entry_tree User)
  pub groups : name.kind ≡ User → new (entry_tree Group) ≡ old (entry_tree Group)
