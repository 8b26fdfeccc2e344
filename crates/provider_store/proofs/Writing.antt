-- What the two writes make of the table of resources.
use Rattle.std.proofs.Common.{◌≡◌, ℕ, ℤ, List, [], ◌∷◌, map, filter, None, Ok, refl, ap, ◌∙◌, subst, IsPermutation}
use Rattle.std.specs.List.{list_all}
use Rattle.sqlite_value.specs.declared.value.Value.TheVariants.{Null, Int, Text}
use Rattle.sqlite_value.specs.Order.{Row, column}
use Rattle.sqlite_trees.specs.Tree.{Trees, has_rowid, put_row, without_rowid}
use Rattle.sqlite_trees.proofs.ListLemmas.{filter_same, all_of}
use Rattle.sqlite_schema.specs.declared.schema.Schema.{Schema}
use Rattle.sqlite_schema.specs.declared.schema.Keys.TheVariants.{Enforced}
use Rattle.sqlite_schema.specs.declared.command.Source.TheVariants.{Values}
use Rattle.sqlite_schema.specs.declared.command.Command.TheVariants.{Insert, Update}
use Rattle.sqlite_rules.specs.Edit.{edit_of, edited}
use Rattle.sqlite_rules.specs.declared.error.Rowids.TheVariants.{Chosen, Given}
use Rattle.sqlite_rules.specs.Calls.{ids_of}
use Rattle.sqlite.specs.Effect.{Database}
use Rattle.sqlite.specs.Does.{Tally, Does}
use Rattle.sqlite.specs.Rows.{Written}
use Rattle.sqlite.proofs.Callers.{one_step, one_permutation}
use Rattle.provider_store.specs.Format.{Form, provider_schema, resource_table}
use Rattle.sql_tables.proofs.Editing.{same_value, went}
use Rattle.provider_store.proofs.Texts.{number_is, insert_terms, update_terms}
use Rattle.provider_store.proofs.Selecting.{number_passes}
use Rattle.sql_tables.specs.Statements.{plain_mode}
use Rattle.sql_tables.proofs.Queries.{query}
use Rattle.sql_tables.proofs.Values.{cast_int, cast_null}
use Rattle.sql_tables.proofs.Selecting.{passes, selected_over, shows}

abbrev pub full : ℤ → ℤ → List ℕ → ℤ → List ℕ → Row
full n k key v text = Int n ∷ Null ∷ Int k ∷ Text key ∷ Int v ∷ Text text ∷ []

module _ (limit : Rattle.std.specs.Prelude.Option ℕ) (f : Form) (db after : Database) (tally : Tally) (sql : List ℕ) (has : db.schema ≡ provider_schema f) (n k v : ℤ) (key text : List ℕ) where
  abbrev schema : Schema
  schema = provider_schema f

  pub inserts : Does limit plain_mode (Int n ∷ Int k ∷ Text key ∷ Int v ∷ Text text ∷ []) db sql None (Insert 1 (Values insert_terms 6)) (Ok (tally, after))
      → (after.schema ≡ schema) × (after.trees 1 ≡ put_row (full n k key v text) (db.trees 1))
  inserts does =
      let params : Row = Int n ∷ Int k ∷ Text key ∷ Int v ∷ Text text ∷ [] in
      let done = went (subst (λ s. Does limit plain_mode params (record db { schema = s }) sql None (Insert 1 (Values insert_terms 6)) (Ok (tally, after))) has does) in
      let now = ap (λ (p : Tally × Database). p.1) (same_value (went (went done.2).2).2) in
      let given = went done.1 in
      let written = went (went given.2).2 in
      let counted = went written.2 in
      let trees : done.0.trees ≡ written.0 = ap (λ (it : Written). it.trees) (same_value counted.2) ∙ same_value counted.1 in
      let rows = (one_step schema Enforced db.trees written.0 (edit_of db.trees (resource_table f.resource_checks f.order) [] Chosen 0 given.0) refl written.1).rows in
      let edit : edited db.trees (edit_of db.trees (resource_table f.resource_checks f.order) [] Chosen 0 given.0) ≡ put_row (full n k key v text) (db.trees 1) =
      ap (λ all. edited db.trees (edit_of db.trees (resource_table f.resource_checks f.order) [] Chosen 0 all)) given.1.1 ∙ rw (cast_int n, cast_int k, cast_int v, cast_null) refl in
      (ap (λ (d : Database). d.schema) now, ap (λ (d : Database). d.trees 1) now ∙ ap (λ (t : Trees). t 1) trees ∙ rows ∙ edit)

  pub updates : (r : Row) → filter (has_rowid n) (db.trees 1) ≡ r ∷ [] → column r 0 ≡ Int n → column r 2 ≡ Int k → column r 3 ≡ Text key
      → Does limit plain_mode (Int n ∷ Int v ∷ Text text ∷ []) db sql None (Update 1 (record { lets = []; body = query 1 (number_is ∷ []) update_terms [] })) (Ok (tally, after))
      → (after.schema ≡ schema) × (after.trees 1 ≡ put_row (full n k key v text) (without_rowid n (db.trees 1)))
  updates r only number kind name does =
      let params : Row = Int n ∷ Int v ∷ Text text ∷ [] in
      let command = Update 1 (record { lets = []; body = query 1 (number_is ∷ []) update_terms [] }) in
      let done = went (subst (λ s. Does limit plain_mode params (record db { schema = s }) sql None command (Ok (tally, after))) has does) in
      let now = ap (λ (p : Tally × Database). p.1) (same_value (went (went done.2).2).2) in
      let given = went done.1 in
      let all = selected_over 1 (number_is ∷ []) update_terms [] params (λ _. refl) (record { schema = schema; trees = db.trees }) given.0 given.1 in
      let found : filter (passes (number_is ∷ []) params) (db.trees 1) ≡ r ∷ [] = filter_same (passes (number_is ∷ []) params) (has_rowid n) (db.trees 1) (all_of (λ x. passes (number_is ∷ []) params x ≡ has_rowid n x) (λ x. number_passes n (Int v ∷ Text text ∷ []) x) (db.trees 1)) ∙ only in
      let one : given.0 ≡ (Int n ∷ Int n ∷ Null ∷ Int k ∷ Text key ∷ Int v ∷ Text text ∷ []) ∷ [] =
      one_permutation _ given.0 (subst (λ l. IsPermutation l given.0) (ap (map (shows update_terms params)) found ∙ rw (number, kind, name) refl) all) in
      let written = went given.2 in
      let trees : done.0.trees ≡ written.0 = ap (λ (it : Written). it.trees) (same_value written.2) in
      let rows = (one_step schema Enforced db.trees written.0 (edit_of db.trees (resource_table f.resource_checks f.order) (ids_of given.0) Given 1 given.0) refl written.1).rows in
      let edit : edited db.trees (edit_of db.trees (resource_table f.resource_checks f.order) (ids_of given.0) Given 1 given.0) ≡ put_row (full n k key v text) (without_rowid n (db.trees 1)) =
      ap (λ all. edited db.trees (edit_of db.trees (resource_table f.resource_checks f.order) (ids_of all) Given 1 all)) one ∙ rw (cast_int n, cast_int k, cast_int v, cast_null) refl in
      (ap (λ (d : Database). d.schema) now, ap (λ (d : Database). d.trees 1) now ∙ ap (λ (t : Trees). t 1) trees ∙ rows ∙ edit)
