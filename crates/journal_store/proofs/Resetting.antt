-- What the update of all rows makes of a table.
use Rattle.std.proofs.Common.{◌≡◌, ◌+◌, ℕ, ℤ, true, false, not, ◌||◌, List, [], ◌∷◌, ◌++◌, drop, map, Option, Some, None, Ok, Ordering, Less, Equal, Greater, refl, sym, ap, ◌∙◌, subst, inl, inr, IsPermutation, arith}
use Rattle.std.specs.List.{AllByRecursion}
use Rattle.std.specs.Ordering.{is_eq, match_ordering}
use Rattle.std.proofs.lemmas.Bool.{and_parts}
use Rattle.std.proofs.lemmas.List.{append-nil}
use Rattle.std.proofs.lemmas.List.Sorted.{IsPermutation-append_left, IsPermutation-cons, IsPermutation-middle, IsPermutation-refl, IsPermutation-sym, IsPermutation-trans}
use Rattle.sqlite_value.specs.declared.value.Value.TheVariants.{Null, Int}
use Rattle.sqlite_value.specs.Order.{Row, value_cmp}
use Rattle.sqlite_value.specs.declared.keys.Order.{Order}
use Rattle.sqlite_sql.specs.Term.{Term, col, lit}
use Rattle.sqlite_trees.specs.Tree.{Trees, rowid, has_rowid, put_row, without_rowid}
use Rattle.sqlite_trees.proofs.ListLemmas.{IsPermutation-same}
use Rattle.sqlite_schema.specs.declared.schema.Keys.TheVariants.{Enforced}
use Rattle.sqlite_schema.specs.declared.schema.Kind.TheVariants as column_kind
use Rattle.sqlite_schema.specs.declared.schema.Schema.{Schema}
use Rattle.sqlite_schema.specs.declared.schema.Table.{Table}
use Rattle.sqlite_schema.specs.declared.command.Command.{Command}
use Rattle.sqlite_schema.specs.declared.command.Command.TheVariants.{Update}
use Rattle.sqlite_rules.specs.Calls.{ids_of}
use Rattle.sqlite_rules.specs.Cast.{cast, cast_row}
use Rattle.sqlite_rules.specs.Edit.{are_fresh, edit_of, edited, id_in as id_value_in, is_taken, left_by, numbered, put_all, without_all}
use Rattle.sqlite_rules.specs.declared.error.Rowids.TheVariants.{Given}
use Rattle.sqlite_rules.specs.Lists.{Has}
use Rattle.sqlite_rules.proofs.ListLemmas.{has_filtered}
use Rattle.sqlite_tied.specs.Compute.{everything}
use Rattle.sqlite.specs.Does.{Tally, Does}
use Rattle.sqlite.specs.Effect.{Database}
use Rattle.sqlite.specs.Listing.{understood}
use Rattle.sqlite.specs.Rows.{Written}
use Rattle.sqlite.proofs.Callers.{one_step}
use Rattle.scim_key.proofs.RevisionLaws.{are_read_back, none_first}
use Rattle.scim_key.specs.Revisions.{confirmed_of_parts, no_revision, revision_epoch, revision_number}
use Rattle.scim_key.specs.declared.records.Kind.{Kind}
use Rattle.scim_key.specs.declared.records.Kind.TheVariants.{User, Group}
use Rattle.source_csv.specs.Records.{row_revision}
use Rattle.journal_core.specs.Forgetting.{unlearnt}
use Rattle.journal_core.specs.declared.entries.Entry.{Entry}
use Rattle.sql_tables.specs.Statements.{plain_mode}
use Rattle.sql_tables.proofs.Answering.{every}
use Rattle.sql_tables.proofs.Editing.{IsWrite, same_value, went}
use Rattle.sql_tables.proofs.Queries.{query}
use Rattle.sql_tables.proofs.Selecting.{mapped, shows}
use Rattle.sql_tables.proofs.Values.{cast_int}
use Rattle.journal_store.specs.Connections.{AreNumbered, Shows}
use Rattle.journal_store.specs.Format.{Form, entry_place, entry_tables, entry_tree, journal_schema, third_groups, third_users}
use Rattle.journal_store.specs.Tables.{places, table_of}
use Rattle.journal_store.specs.Resets.{ResetsOne, kept_count, none_values, reset_row, reset_text}
use Rattle.journal_store.specs.Rows.{IsReadable, entry_in, shown_row}
use Rattle.journal_store.proofs.Loading.{map_has, permuted}
use Rattle.journal_store.proofs.Putting.{not_true, own_number}
use Rattle.journal_store.proofs.Selecting.{selected}
use Rattle.journal_store.proofs.Telling.{same_key, same_texts, shows_told, told_kept, told_shown}

-- ---- the statement

abbrev pub reset_terms : Kind → List Term
reset_terms kind = col 1 0 ∷ (map (col 1) (places 0 (1 + kept_count kind)) ++ col 0 0 ∷ lit Null ∷ col 1 (3 + kept_count kind) ∷ col 0 1 ∷ [])

abbrev pub reset_command : Kind → Command
reset_command kind = Update (entry_place kind) (record { lets = []; body = query (entry_tree kind) [] (reset_terms kind) [] })

pub reset_is : (kind : Kind) → IsWrite journal_schema (reset_text kind) (reset_command kind)
unfolding understood everything
reset_is User = record { means = λ f. refl; plain = λ f. (refl, refl) }
reset_is Group = record { means = λ f. refl; plain = λ f. (refl, refl) }

-- ---- rows that are put into an empty table

put_one : (new : Row) (rows : List Row) → is_taken rows new ≡ false → IsPermutation (new ∷ rows) (put_row new rows)
put_one new [] free = IsPermutation-refl (new ∷ [])
put_one new (r ∷ rows) free = go (value_cmp (rowid r) (rowid new)) free (put_one new rows)
  where
    go : (o : Ordering) → (is_eq o || is_taken rows new) ≡ false → (is_taken rows new ≡ false → IsPermutation (new ∷ rows) (put_row new rows))
        → IsPermutation (new ∷ r ∷ rows) (match_ordering o (r ∷ put_row new rows) (new ∷ rows) (new ∷ r ∷ rows))
    go Less free ih =
        IsPermutation-trans (new ∷ r ∷ rows) (r ∷ new ∷ rows) (r ∷ put_row new rows) (IsPermutation-sym (r ∷ new ∷ rows) (new ∷ r ∷ rows) (IsPermutation-middle (r ∷ []) new rows)) (IsPermutation-cons r (new ∷ rows) (put_row new rows) (ih free))
    go Equal free ih = absurd (cc)
    go Greater free ih = IsPermutation-refl (new ∷ r ∷ rows)

pub put_every : (rows news : List Row) → are_fresh rows news ≡ true → IsPermutation (rows ++ news) (put_all rows news)
put_every rows [] fresh = IsPermutation-same (rows ++ []) rows (append-nil rows)
put_every rows (new ∷ news) fresh =
    let parts = and_parts (not (is_taken rows new)) (are_fresh (put_row new rows) news) fresh in
    let here = put_one new rows (not_true (is_taken rows new) parts.0) in
    IsPermutation-trans (rows ++ new ∷ news) ((new ∷ rows) ++ news) (put_all (put_row new rows) news) (IsPermutation-middle rows new news)
    (IsPermutation-trans ((new ∷ rows) ++ news) (put_row new rows ++ news) (put_all (put_row new rows) news) (IsPermutation-append_left news (new ∷ rows) (put_row new rows) here) (put_every (put_row new rows) news parts.1))

given_numbers : (rows news : List Row) → numbered Given rows news ≡ news
given_numbers rows [] = refl
given_numbers rows (new ∷ news) = ap (λ l. new ∷ l) (given_numbers (put_row new rows) news)

-- ---- all rows are taken out

pub left_has : (ids : List ℤ) (rows : List Row) (x : Row) → Has (without_all rows ids) x → Has rows x × ((n : ℤ) → Has ids n → has_rowid n x ≡ false)
left_has [] rows x h = (h, λ n none. absurd none)
left_has (id ∷ ids) rows x h =
    let later = left_has ids (without_rowid id rows) x h in
    let here = has_filtered (λ r. not (has_rowid id r)) rows x later.0 in
    (here.0, λ n there. elim there [ inl same ↦ subst (λ m. has_rowid m x ≡ false) (sym same) (not_true (has_rowid id x) here.1) | inr among ↦ later.1 n among ])

pub nothing : {X : Type 0} (xs : List X) → ((x : X) → Has xs x → ⊥) → xs ≡ []
nothing [] none = refl
nothing (x ∷ xs) none = absurd (none x (inl refl))

-- each row of a table is replaced
module _ (it : Table) (db : Trees) (shown renewed : Row → Row) (rows : List Row) (numbers : AreNumbered (db it.tree)) (all : IsPermutation (map shown (db it.tree)) rows)
    (own : (r : Row) → rowid (shown r) ≡ rowid r) (made : (r : Row) → Has (db it.tree) r → cast_row it (drop 1 (shown r)) ≡ renewed r) where
  abbrev cast_of : Row → Row
  cast_of s = cast_row it (drop 1 s)

  gone : without_all (db it.tree) (ids_of rows) ≡ []
  gone = nothing (without_all (db it.tree) (ids_of rows)) (λ x there.
      let left = left_has (ids_of rows) (db it.tree) x there in
      let number = numbers x left.0 in
      let among : Has rows (shown x) = permuted rows (map shown (db it.tree)) (shown x) (IsPermutation-sym (map shown (db it.tree)) rows all) (map_has shown (db it.tree) x left.0) in
      let id_is : id_value_in (rowid (shown x)) ≡ number.0 = ap id_value_in (own x ∙ number.1) in
      let listed : Has (ids_of rows) number.0 = subst (Has (ids_of rows)) id_is (map_has (λ r. id_value_in (rowid r)) rows (shown x) among) in
      let other : has_rowid number.0 x ≡ false = left.1 number.0 listed in
      let its : has_rowid number.0 x ≡ true = own_number x number.0 number.1 in
      cc)

  renew : (table : List Row) → ((r : Row) → Has table r → cast_of (shown r) ≡ renewed r) → map cast_of (map shown table) ≡ map renewed table
  renew [] same = refl
  renew (r ∷ table) same = λ i. same r (inl refl) i ∷ renew table (λ x there. same x (inr there)) i

  pub all_renewed : are_fresh (left_by db (edit_of db it (ids_of rows) Given 1 rows)) (edit_of db it (ids_of rows) Given 1 rows).news ≡ true
      → IsPermutation (map renewed (db it.tree)) (edited db (edit_of db it (ids_of rows) Given 1 rows))
  all_renewed fresh =
      let news : (edit_of db it (ids_of rows) Given 1 rows).news ≡ map cast_of rows = given_numbers (without_all (db it.tree) (ids_of rows)) (map cast_of rows) in
      let free : are_fresh [] (map cast_of rows) ≡ true = (λ i. are_fresh (sym gone i) (sym news i)) ∙ fresh in
      let same : put_all [] (map cast_of rows) ≡ edited db (edit_of db it (ids_of rows) Given 1 rows) = λ i. put_all (sym gone i) (sym news i) in
      subst (IsPermutation (map renewed (db it.tree))) same
      (IsPermutation-trans (map renewed (db it.tree)) (map cast_of rows) (put_all [] (map cast_of rows))
      (subst (λ l. IsPermutation l (map cast_of rows)) (renew (db it.tree) made) (mapped cast_of (map shown (db it.tree)) rows all))
      (put_every [] (map cast_of rows) free))

-- ---- a row that shows an entry, once it is reset

-- what a query shows of a row that was reset
abbrev pub reset_shown : Kind → Row → Row
reset_shown = told_shown no_revision None

pub shown_reset : (kind : Kind) (r : Row) → shown_row kind (reset_row kind r) ≡ reset_shown kind (shown_row kind r)
shown_reset User r = refl
shown_reset Group r = refl

none_back : confirmed_of_parts (revision_epoch no_revision) (revision_number no_revision) ≡ Some no_revision
none_back = are_read_back.confirmed_from_parts no_revision (inl refl)

pub shows_unlearnt : (kind : Kind) (s : Row) (e : Entry) → Shows kind s e → Shows kind (reset_shown kind s) (unlearnt e)
shows_unlearnt kind s e it = record {
  entry_is = shows_told no_revision None none_back kind s e it.entry_is;
  key = same_key no_revision None kind s ∙ it.key;
  kind_is = it.kind_is;
  lawful = it.lawful;
  texts = subst (AllByRecursion IsReadable) (sym (same_texts no_revision None kind s)) it.texts;
  id = tt;
  within = none_first (row_revision e.row);
}

-- what the statement writes for a row
pub writes_reset : (kind : Kind) (order : Order) (r : Row) (n : ℤ) (e : Entry) → rowid r ≡ Int n → entry_in kind (shown_row kind r) ≡ Some e
    → cast_row (table_of (entry_tables kind) order) (drop 1 (shows (reset_terms kind) none_values r)) ≡ reset_row kind r
writes_reset User order r n e number is =
    let number_is = ap (cast column_kind.Integer) number ∙ cast_int n ∙ sym number in
    let columns_are = told_kept no_revision None none_back User (shown_row User r) e is in
    λ i. number_is i ∷ columns_are i
writes_reset Group order r n e number is =
    let number_is = ap (cast column_kind.Integer) number ∙ cast_int n ∙ sym number in
    let columns_are = told_kept no_revision None none_back Group (shown_row Group r) e is in
    λ i. number_is i ∷ columns_are i

-- ---- the statement, over a table

-- each row shows an entry
abbrev pub AllShow : Kind → List Row → Type 0
AllShow kind table = (r : Row) → Has table r → (e : Entry) × (entry_in kind (shown_row kind r) ≡ Some e)

module _ (limit : Option ℕ) (f : Form) (db after : Database) (tally : Tally) (sql : List ℕ) (has : db.schema ≡ journal_schema f) where
  abbrev schema : Schema
  schema = journal_schema f

  resets_users : AreNumbered (db.trees 7) → AllShow User (db.trees 7) → Does limit plain_mode none_values db sql None (reset_command User) (Ok (tally, after)) → (after.schema ≡ schema) × ResetsOne User db.trees after.trees
  resets_users numbers show does =
      let done = went (subst (λ s. Does limit plain_mode none_values (record db { schema = s }) sql None (reset_command User) (Ok (tally, after))) has does) in
      let now = ap (λ (t : Tally × Database). t.1) (same_value (went (went done.2).2).2) in
      let rows_given = went done.1 in
      let all = selected User [] (reset_terms User) [] none_values (record { schema = schema; trees = db.trees }) rows_given.0 rows_given.1 in
      let every_row : IsPermutation (map (shows (reset_terms User) none_values) (db.trees 7)) rows_given.0 = subst (λ l. IsPermutation (map (shows (reset_terms User) none_values) l) rows_given.0) (every (db.trees 7) none_values) all in
      let written = went rows_given.2 in
      let trees : done.0.trees ≡ written.0 = ap (λ (it : Written). it.trees) (same_value written.2) in
      let applied = one_step schema Enforced db.trees written.0 (edit_of db.trees (table_of third_users f.users) (ids_of rows_given.0) Given 1 rows_given.0) refl written.1 in
      let reset = all_renewed (table_of third_users f.users) db.trees (shows (reset_terms User) none_values) (reset_row User) rows_given.0 numbers every_row (λ r. refl)
      (λ r there. let n = numbers r there in let e = show r there in writes_reset User f.users r n.0 e.0 n.1 e.1) applied.fresh in
      let is : after.trees 7 ≡ edited db.trees (edit_of db.trees (table_of third_users f.users) (ids_of rows_given.0) Given 1 rows_given.0) =
      ap (λ (d : Database). d.trees 7) now ∙ ap (λ (t : Trees). t 7) trees ∙ applied.rows in (
        ap (λ (d : Database). d.schema) now,
        record {
          resets = subst (IsPermutation (map (reset_row User) (db.trees 7))) (sym is) reset;
          users = λ e. absurd (cc);
          groups = λ _. ap (λ (d : Database). d.trees 9) now ∙ ap (λ (t : Trees). t 9) trees ∙ applied.tables.1.1.1.1.1.0 (λ (e : 9 ≡ 7). omega (arith, e));
        },
      )

  resets_groups : AreNumbered (db.trees 9) → AllShow Group (db.trees 9) → Does limit plain_mode none_values db sql None (reset_command Group) (Ok (tally, after)) → (after.schema ≡ schema) × ResetsOne Group db.trees after.trees
  resets_groups numbers show does =
      let done = went (subst (λ s. Does limit plain_mode none_values (record db { schema = s }) sql None (reset_command Group) (Ok (tally, after))) has does) in
      let now = ap (λ (t : Tally × Database). t.1) (same_value (went (went done.2).2).2) in
      let rows_given = went done.1 in
      let all = selected Group [] (reset_terms Group) [] none_values (record { schema = schema; trees = db.trees }) rows_given.0 rows_given.1 in
      let every_row : IsPermutation (map (shows (reset_terms Group) none_values) (db.trees 9)) rows_given.0 = subst (λ l. IsPermutation (map (shows (reset_terms Group) none_values) l) rows_given.0) (every (db.trees 9) none_values) all in
      let written = went rows_given.2 in
      let trees : done.0.trees ≡ written.0 = ap (λ (it : Written). it.trees) (same_value written.2) in
      let applied = one_step schema Enforced db.trees written.0 (edit_of db.trees (table_of third_groups f.groups) (ids_of rows_given.0) Given 1 rows_given.0) refl written.1 in
      let reset = all_renewed (table_of third_groups f.groups) db.trees (shows (reset_terms Group) none_values) (reset_row Group) rows_given.0 numbers every_row (λ r. refl)
      (λ r there. let n = numbers r there in let e = show r there in writes_reset Group f.groups r n.0 e.0 n.1 e.1) applied.fresh in
      let is : after.trees 9 ≡ edited db.trees (edit_of db.trees (table_of third_groups f.groups) (ids_of rows_given.0) Given 1 rows_given.0) =
      ap (λ (d : Database). d.trees 9) now ∙ ap (λ (t : Trees). t 9) trees ∙ applied.rows in (
        ap (λ (d : Database). d.schema) now,
        record {
          resets = subst (IsPermutation (map (reset_row Group) (db.trees 9))) (sym is) reset;
          users = λ _. ap (λ (d : Database). d.trees 7) now ∙ ap (λ (t : Trees). t 7) trees ∙ applied.tables.1.1.1.1.0 (λ (e : 7 ≡ 9). omega (arith, e));
          groups = λ e. absurd (cc);
        },
      )

  pub resets_by : (kind : Kind) → AreNumbered (db.trees (entry_tree kind)) → AllShow kind (db.trees (entry_tree kind)) → Does limit plain_mode none_values db sql None (reset_command kind) (Ok (tally, after)) → (after.schema ≡ schema) × ResetsOne kind db.trees after.trees
  resets_by User numbers show does = resets_users numbers show does
  resets_by Group numbers show does = resets_groups numbers show does
