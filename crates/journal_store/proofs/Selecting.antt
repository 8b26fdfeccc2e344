-- What a query over a table of entries answers.
use Rattle.std.proofs.Common.{◌≡◌, ℕ, List, [], ◌∷◌, map, filter, refl, ◌∙◌, IsPermutation}
use Rattle.sqlite_value.specs.declared.keys.Key.{Key}
use Rattle.sqlite_value.specs.declared.value.Value.TheVariants.{Text}
use Rattle.sqlite_value.specs.Order.{Row, column}
use Rattle.sqlite_sql.specs.Term.{Term}
use Rattle.sqlite_sql.specs.Program.{overlay}
use Rattle.sqlite_trees.specs.Tree.{Trees}
use Rattle.sqlite.specs.Effect.{Database, Answers}
use Rattle.scim_key.specs.declared.records.Kind.{Kind}
use Rattle.scim_key.specs.declared.records.Kind.TheVariants.{User, Group}
use Rattle.journal_store.specs.Format.{entry_tree}
use Rattle.sql_tables.proofs.Queries.{query}
use Rattle.sql_tables.proofs.Values.{equal_text_at}
use Rattle.journal_store.specs.Rows.{shown_row}
use Rattle.journal_store.specs.Connections.{has_key}
use Rattle.sql_tables.proofs.Selecting.{and_true, passes, selected_over, shows}
use Rattle.journal_store.proofs.Texts.{key_is, shown_terms}

-- without tables of its own, a query sees those of the database
pub same_tree : (kind : Kind) (db : Trees) → overlay db [] (entry_tree kind) ≡ db (entry_tree kind)
same_tree User db = refl
same_tree Group db = refl

pub selected : (kind : Kind) (terms shown : List Term) (order : List (Term × Key)) (params : Row) (db : Database) (rows : List Row) → Answers db (record { lets = []; body = query (entry_tree kind) terms shown order }) params rows
    → IsPermutation (map (shows shown params) (filter (passes terms params) (db.trees (entry_tree kind)))) rows
selected kind terms shown order params = selected_over (entry_tree kind) terms shown order params (same_tree kind)

-- ---- the tests

pub key_passes : (key : List ℕ) (rest r : Row) → passes (key_is ∷ []) (Text key ∷ rest) r ≡ has_key key r
key_passes key rest r = and_true _ ∙ equal_text_at (column r 1) key

-- what a query shows of a row
pub shows_all : (kind : Kind) (params r : Row) → shows (shown_terms kind) params r ≡ shown_row kind r
shows_all User params r = refl
shows_all Group params r = refl
