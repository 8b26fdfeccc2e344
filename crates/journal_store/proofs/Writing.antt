-- What the two writes make of the table of a type.
use Rattle.std.proofs.Common.{◌≡◌, ℕ, ℤ, pos, drop, Bool, true, false, not, ◌&&◌, List, [], ◌∷◌, map, filter, None, Ok, Option, refl, ap, ◌∙◌, subst, IsPermutation, arith}
use Rattle.sqlite_value.specs.declared.value.Value.TheVariants.{Int, Text}
use Rattle.sqlite_value.specs.Order.{Row, column}
use Rattle.sqlite_trees.specs.Tree.{Trees, rowid, put_row, without_rowid}
use Rattle.sqlite_trees.proofs.ListLemmas.{filter_same, all_of}
use Rattle.sqlite_schema.specs.declared.schema.Schema.{Schema}
use Rattle.sqlite_schema.specs.declared.schema.Keys.TheVariants.{Enforced}
use Rattle.sqlite_schema.specs.declared.command.Source.TheVariants.{Values}
use Rattle.sqlite_schema.specs.declared.command.Command.TheVariants.{Insert, Update}
use Rattle.sqlite_rules.specs.Edit.{are_fresh, edit_of, edited, is_taken, next_rowid, put_all}
use Rattle.sqlite_rules.specs.declared.error.Rowids.TheVariants.{Chosen, Given}
use Rattle.sqlite_rules.specs.Calls.{ids_of}
use Rattle.sqlite.specs.Effect.{Database}
use Rattle.sqlite.specs.Does.{Tally, Does}
use Rattle.sqlite.specs.Rows.{Written}
use Rattle.sqlite.proofs.Callers.{one_step, one_permutation}
use Rattle.scim_key.specs.declared.records.Kind.TheVariants.{User, Group}
use Rattle.scim_key.specs.Revisions.{RevisionValue, revision_epoch, revision_number}
use Rattle.source_csv.specs.Records.{row_name}
use Rattle.source_csv.specs.Rows.{GroupFields, UserFields}
use Rattle.source_csv.specs.declared.rows.Row.TheVariants as source
use Rattle.sqlite_rules.specs.Cast.{cast_all}
use Rattle.journal_store.specs.Format.{Form, journal_schema, third_groups, third_users}
use Rattle.journal_store.specs.Tables.{table_of}
use Rattle.sql_tables.specs.Statements.{plain_mode}
use Rattle.sql_tables.proofs.Queries.{query}
use Rattle.sql_tables.proofs.Values.{cast_int, cast_null}
use Rattle.sql_tables.proofs.Selecting.{passes, shows}
use Rattle.journal_store.specs.Rows.{active_number, row_by}
use Rattle.journal_store.specs.Connections.{has_key}
use Rattle.sql_tables.proofs.Editing.{same_value, went}
use Rattle.journal_store.proofs.Texts.{key_is, insert_terms, insert_width, update_terms}
use Rattle.journal_store.proofs.Values.{cast_id}
use Rattle.journal_store.proofs.Selecting.{selected, key_passes}

fresh_one : (b : Bool) → (not b && true) ≡ true → b ≡ false
fresh_one true e = absurd (cc)
fresh_one false e = refl

pub found_one : (key : List ℕ) (rest : Row) (table : List Row) (r : Row) → filter (has_key key) table ≡ r ∷ [] → filter (passes (key_is ∷ []) (Text key ∷ rest)) table ≡ r ∷ []
found_one key rest table r only =
    filter_same (passes (key_is ∷ []) (Text key ∷ rest)) (has_key key) table (all_of (λ x. passes (key_is ∷ []) (Text key ∷ rest) x ≡ has_key key x) (λ x. key_passes key rest x) table) ∙ only

module _ (limit : Option ℕ) (f : Form) (db after : Database) (tally : Tally) (sql : List ℕ) (has : db.schema ≡ journal_schema f) where
  abbrev schema : Schema
  schema = journal_schema f

  module _ (u : UserFields) (confirmed : RevisionValue) (id : Option (List ℕ)) where
    abbrev user_row : Row
    user_row = row_by (source.User u) confirmed id

    abbrev user_key : List ℕ
    user_key = (row_name (source.User u)).key

    user_cast : cast_all third_users.columns user_row ≡ user_row
    user_cast = rw (cast_int (pos (revision_number u.revision)), cast_int (pos (active_number u.active)), cast_int (pos (revision_number confirmed)), cast_id id, cast_int (pos (revision_epoch u.revision)), cast_int (pos (revision_epoch confirmed))) refl

    pub inserts_user : Does limit plain_mode user_row db sql None (Insert 4 (Values (insert_terms User) (insert_width User))) (Ok (tally, after))
        → (n : ℤ) × (after.schema ≡ schema) × (is_taken (db.trees 7) (Int n ∷ user_row) ≡ false) × (after.trees 7 ≡ put_row (Int n ∷ user_row) (db.trees 7)) × (after.trees 9 ≡ db.trees 9)
    inserts_user does =
        let done = went (subst (λ s. Does limit plain_mode user_row (record db { schema = s }) sql None (Insert 4 (Values (insert_terms User) (insert_width User))) (Ok (tally, after))) has does) in
        let now = ap (λ (t : Tally × Database). t.1) (same_value (went (went done.2).2).2) in
        let rows_given = went done.1 in
        let written = went (went rows_given.2).2 in
        let counted = went written.2 in
        let trees : done.0.trees ≡ written.0 = ap (λ (it : Written). it.trees) (same_value counted.2) ∙ same_value counted.1 in
        let applied = one_step schema Enforced db.trees written.0 (edit_of db.trees (table_of third_users f.users) [] Chosen 0 rows_given.0) refl written.1 in
        let news : (edit_of db.trees (table_of third_users f.users) [] Chosen 0 rows_given.0).news ≡ (Int (next_rowid (db.trees 7)) ∷ user_row) ∷ [] =
        ap (λ all. (edit_of db.trees (table_of third_users f.users) [] Chosen 0 all).news) rows_given.1.1 ∙ rw (cast_null, user_cast) refl in (
          next_rowid (db.trees 7),
          ap (λ (d : Database). d.schema) now,
          fresh_one (is_taken (db.trees 7) (Int (next_rowid (db.trees 7)) ∷ user_row)) (subst (λ (l : List Row). are_fresh (db.trees 7) l ≡ true) news applied.fresh),
          ap (λ (d : Database). d.trees 7) now ∙ ap (λ (t : Trees). t 7) trees ∙ applied.rows ∙ ap (put_all (db.trees 7)) news,
          ap (λ (d : Database). d.trees 9) now ∙ ap (λ (t : Trees). t 9) trees ∙ applied.tables.1.1.1.1.1.0 (λ (e : 9 ≡ 7). omega (arith, e)),
        )

    pub updates_user : (r : Row) (n : ℤ) → filter (has_key user_key) (db.trees 7) ≡ r ∷ [] → rowid r ≡ Int n → column r 1 ≡ Text user_key
        → Does limit plain_mode user_row db sql None (Update 4 (record { lets = []; body = query 7 (key_is ∷ []) (update_terms User) [] })) (Ok (tally, after))
        → (after.schema ≡ schema) × (after.trees 7 ≡ put_row (Int n ∷ user_row) (without_rowid n (db.trees 7))) × (after.trees 9 ≡ db.trees 9)
    updates_user r n only number_is key_at does =
        let command = Update 4 (record { lets = []; body = query 7 (key_is ∷ []) (update_terms User) [] }) in
        let done = went (subst (λ s. Does limit plain_mode user_row (record db { schema = s }) sql None command (Ok (tally, after))) has does) in
        let now = ap (λ (t : Tally × Database). t.1) (same_value (went (went done.2).2).2) in
        let rows_given = went done.1 in
        let all = selected User (key_is ∷ []) (update_terms User) [] user_row (record { schema = schema; trees = db.trees }) rows_given.0 rows_given.1 in
        let one : rows_given.0 ≡ (Int n ∷ Int n ∷ user_row) ∷ [] =
        one_permutation _ rows_given.0 (subst (λ l. IsPermutation l rows_given.0) (ap (map (shows (update_terms User) user_row)) (found_one user_key (drop 1 user_row) (db.trees 7) r only) ∙ rw (number_is, key_at) refl) all) in
        let written = went rows_given.2 in
        let trees : done.0.trees ≡ written.0 = ap (λ (it : Written). it.trees) (same_value written.2) in
        let applied = one_step schema Enforced db.trees written.0 (edit_of db.trees (table_of third_users f.users) (ids_of rows_given.0) Given 1 rows_given.0) refl written.1 in
        let edit : edited db.trees (edit_of db.trees (table_of third_users f.users) (ids_of rows_given.0) Given 1 rows_given.0) ≡ put_row (Int n ∷ user_row) (without_rowid n (db.trees 7)) =
        ap (λ all. edited db.trees (edit_of db.trees (table_of third_users f.users) (ids_of all) Given 1 all)) one ∙ rw (cast_int n, user_cast) refl in (
          ap (λ (d : Database). d.schema) now,
          ap (λ (d : Database). d.trees 7) now ∙ ap (λ (t : Trees). t 7) trees ∙ applied.rows ∙ edit,
          ap (λ (d : Database). d.trees 9) now ∙ ap (λ (t : Trees). t 9) trees ∙ applied.tables.1.1.1.1.1.0 (λ (e : 9 ≡ 7). omega (arith, e)),
        )

  module _ (g : GroupFields) (confirmed : RevisionValue) (id : Option (List ℕ)) where
    abbrev group_row : Row
    group_row = row_by (source.Group g) confirmed id

    abbrev group_key : List ℕ
    group_key = (row_name (source.Group g)).key

    group_cast : cast_all third_groups.columns group_row ≡ group_row
    group_cast = rw (cast_int (pos (revision_number g.revision)), cast_int (pos (revision_number confirmed)), cast_id id, cast_int (pos (revision_epoch g.revision)), cast_int (pos (revision_epoch confirmed))) refl

    pub inserts_group : Does limit plain_mode group_row db sql None (Insert 5 (Values (insert_terms Group) (insert_width Group))) (Ok (tally, after))
        → (n : ℤ) × (after.schema ≡ schema) × (is_taken (db.trees 9) (Int n ∷ group_row) ≡ false) × (after.trees 9 ≡ put_row (Int n ∷ group_row) (db.trees 9)) × (after.trees 7 ≡ db.trees 7)
    inserts_group does =
        let done = went (subst (λ s. Does limit plain_mode group_row (record db { schema = s }) sql None (Insert 5 (Values (insert_terms Group) (insert_width Group))) (Ok (tally, after))) has does) in
        let now = ap (λ (t : Tally × Database). t.1) (same_value (went (went done.2).2).2) in
        let rows_given = went done.1 in
        let written = went (went rows_given.2).2 in
        let counted = went written.2 in
        let trees : done.0.trees ≡ written.0 = ap (λ (it : Written). it.trees) (same_value counted.2) ∙ same_value counted.1 in
        let applied = one_step schema Enforced db.trees written.0 (edit_of db.trees (table_of third_groups f.groups) [] Chosen 0 rows_given.0) refl written.1 in
        let news : (edit_of db.trees (table_of third_groups f.groups) [] Chosen 0 rows_given.0).news ≡ (Int (next_rowid (db.trees 9)) ∷ group_row) ∷ [] =
        ap (λ all. (edit_of db.trees (table_of third_groups f.groups) [] Chosen 0 all).news) rows_given.1.1 ∙ rw (cast_null, group_cast) refl in (
          next_rowid (db.trees 9),
          ap (λ (d : Database). d.schema) now,
          fresh_one (is_taken (db.trees 9) (Int (next_rowid (db.trees 9)) ∷ group_row)) (subst (λ (l : List Row). are_fresh (db.trees 9) l ≡ true) news applied.fresh),
          ap (λ (d : Database). d.trees 9) now ∙ ap (λ (t : Trees). t 9) trees ∙ applied.rows ∙ ap (put_all (db.trees 9)) news,
          ap (λ (d : Database). d.trees 7) now ∙ ap (λ (t : Trees). t 7) trees ∙ applied.tables.1.1.1.1.0 (λ (e : 7 ≡ 9). omega (arith, e)),
        )

    pub updates_group : (r : Row) (n : ℤ) → filter (has_key group_key) (db.trees 9) ≡ r ∷ [] → rowid r ≡ Int n → column r 1 ≡ Text group_key
        → Does limit plain_mode group_row db sql None (Update 5 (record { lets = []; body = query 9 (key_is ∷ []) (update_terms Group) [] })) (Ok (tally, after))
        → (after.schema ≡ schema) × (after.trees 9 ≡ put_row (Int n ∷ group_row) (without_rowid n (db.trees 9))) × (after.trees 7 ≡ db.trees 7)
    updates_group r n only number_is key_at does =
        let command = Update 5 (record { lets = []; body = query 9 (key_is ∷ []) (update_terms Group) [] }) in
        let done = went (subst (λ s. Does limit plain_mode group_row (record db { schema = s }) sql None command (Ok (tally, after))) has does) in
        let now = ap (λ (t : Tally × Database). t.1) (same_value (went (went done.2).2).2) in
        let rows_given = went done.1 in
        let all = selected Group (key_is ∷ []) (update_terms Group) [] group_row (record { schema = schema; trees = db.trees }) rows_given.0 rows_given.1 in
        let one : rows_given.0 ≡ (Int n ∷ Int n ∷ group_row) ∷ [] =
        one_permutation _ rows_given.0 (subst (λ l. IsPermutation l rows_given.0) (ap (map (shows (update_terms Group) group_row)) (found_one group_key (drop 1 group_row) (db.trees 9) r only) ∙ rw (number_is, key_at) refl) all) in
        let written = went rows_given.2 in
        let trees : done.0.trees ≡ written.0 = ap (λ (it : Written). it.trees) (same_value written.2) in
        let applied = one_step schema Enforced db.trees written.0 (edit_of db.trees (table_of third_groups f.groups) (ids_of rows_given.0) Given 1 rows_given.0) refl written.1 in
        let edit : edited db.trees (edit_of db.trees (table_of third_groups f.groups) (ids_of rows_given.0) Given 1 rows_given.0) ≡ put_row (Int n ∷ group_row) (without_rowid n (db.trees 9)) =
        ap (λ all. edited db.trees (edit_of db.trees (table_of third_groups f.groups) (ids_of all) Given 1 all)) one ∙ rw (cast_int n, group_cast) refl in (
          ap (λ (d : Database). d.schema) now,
          ap (λ (d : Database). d.trees 9) now ∙ ap (λ (t : Trees). t 9) trees ∙ applied.rows ∙ edit,
          ap (λ (d : Database). d.trees 7) now ∙ ap (λ (t : Trees). t 7) trees ∙ applied.tables.1.1.1.1.0 (λ (e : 7 ≡ 9). omega (arith, e)),
        )
