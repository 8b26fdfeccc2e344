-- What the statements make of any tables that carry a journal over: one is copied, one is emptied, and the number of
-- the format is set.
use Rattle.std.proofs.Common.{◌≡◌, ◌≢◌, ◌==◌, ℕ, ℤ, pos, Bool, true, false, not, ◌&&◌, ◌||◌, length, List, [], ◌∷◌, ◌++◌, map, filter, slice_get, Option, Some, None, unwrap_or, Ok, Ordering, Less, Equal, Greater, refl, sym, ap, ◌∙◌, subst, inl, inr, IsPermutation, arith}
use Rattle.std.specs.Float.{minus_two_to}
use Rattle.std.specs.List.{AllByRecursion, list_any}
use Rattle.std.specs.Ordering.{is_eq, is_lt, ordering_reverse}
use Rattle.std.proofs.lemmas.Bool.{and_parts, cases_Bool, eqb-true}
use Rattle.std.proofs.lemmas.List.{append-nil}
use Rattle.sqlite_value.specs.declared.keys.Collation.TheVariants.{Binary}
use Rattle.sqlite_value.specs.declared.keys.Order.{Order}
use Rattle.sqlite_value.specs.declared.value.Value.{Value}
use Rattle.sqlite_value.specs.declared.value.Value.TheVariants.{Null, Int, Real, Text, Blob}
use Rattle.sqlite_value.specs.Order.{Row, column, value_cmp}
use Rattle.sqlite_value.proofs.OrderLemmas.{value_cmp_total, value_cmp-Null, value_cmp-apart}
use Rattle.sqlite_sql.specs.Ops.{unary}
use Rattle.sqlite_sql.specs.Program.{overlay}
use Rattle.sqlite_sql.specs.Query.{IsAnswerAs, Query as Asked}
use Rattle.sqlite_sql.specs.Term.{Term, lit, col, op2}
use Rattle.sqlite_sql.specs.declared.ops.BinaryOp.TheVariants.{Compare}
use Rattle.sqlite_sql.specs.declared.ops.CompareOp.TheVariants.{Eq}
use Rattle.sqlite_sql.specs.declared.ops.UnaryOp.TheVariants.{ToInt}
use Rattle.sqlite_trees.specs.Tree.{Trees, rowid, has_rowid}
use Rattle.sqlite_schema.specs.declared.command.Command.{Command}
use Rattle.sqlite_schema.specs.declared.command.Command.TheVariants.{Insert, Update, Delete}
use Rattle.sqlite_schema.specs.declared.command.Source.TheVariants.{Query}
use Rattle.sqlite_schema.specs.declared.schema.Column.{Column}
use Rattle.sqlite_schema.specs.declared.schema.Keys.TheVariants.{Enforced}
use Rattle.sqlite_schema.specs.declared.schema.Kind.TheVariants.{Integer}
use Rattle.sqlite_schema.specs.declared.schema.Schema.{Schema}
use Rattle.sqlite_schema.specs.declared.schema.Table.{Table}
use Rattle.sqlite_rules.specs.Action.{Writes, works}
use Rattle.sqlite_rules.specs.Calls.{ids_of}
use Rattle.sqlite_rules.specs.Cast.{cast, cast_row}
use Rattle.sqlite_rules.specs.Edit.{Applies, Edit, are_fresh, edit_of, edited, id_in as id_value_in, numbered, put_all, taken_by, without_all}
use Rattle.sqlite_rules.specs.declared.error.Rowids.TheVariants.{Chosen, Given}
use Rattle.sqlite.specs.Does.{AtPlace, Does, OnRows, Tally}
use Rattle.sqlite.specs.Effect.{Answers, Database}
use Rattle.sqlite.specs.Listing.{understood}
use Rattle.sqlite.specs.Rows.{Outcome, Part, Task, Written}
use Rattle.sqlite.specs.State.{State, Executes}
use Rattle.sqlite.proofs.Callers.{one_permutation, one_step, runs_as, statement_of}
use Rattle.sql_tables.specs.Layouts.{format_table}
use Rattle.sql_tables.specs.Statements.{plain_mode}
use Rattle.sql_tables.proofs.Answering.{nothing}
use Rattle.sql_tables.proofs.Editing.{IsWrite, same_value, went}
use Rattle.sql_tables.proofs.Queries.{query}
use Rattle.sql_tables.proofs.Selecting.{and_true, passes, selected_over, shows}
use Rattle.sql_tables.proofs.Values.{cast_int, equal_rowid}
use Rattle.journal_store.specs.Connections.{AreNumbered}
use Rattle.journal_store.specs.Tables.{keyed_table}
use Rattle.journal_store.proofs.OlderFormats.Copying.{KeepsEach, all_copied, rest_is, rest_numbered}

-- ---- the commands

-- the terms over the rows of a tree are the columns of the new rows
abbrev pub copy_query : (from : ℕ) → (tests terms : List Term) → Asked
copy_query from tests terms = record (query from tests terms []) { collations = map (λ (t : Term). Binary) terms }

abbrev pub copy_command : (place from : ℕ) → (tests terms : List Term) → Command
copy_command place from tests terms = Insert place (Query (record { lets = []; body = copy_query from tests terms }))

abbrev empty_terms : List Term
empty_terms = col 1 0 ∷ []

abbrev pub empty_command : (place tree : ℕ) → List Term → Command
empty_command place tree tests = Delete place (record { lets = []; body = query tree tests empty_terms [] })

abbrev one_is : Term
one_is = op2 (Compare Eq Binary) (col 1 0) (lit (Int (pos 1)))

abbrev number_terms : List Term
number_terms = col 1 0 ∷ col 1 0 ∷ lit Null ∷ col 0 0 ∷ []

abbrev pub number_command : Command
number_command = Update 0 (record { lets = []; body = query 0 (one_is ∷ []) number_terms [] })

-- without DISTINCT the collations mean nothing
copied_rows : (from : ℕ) (tests terms : List Term) (params : Row) → ((db : Trees) → overlay db [] from ≡ db from) → (db : Database) (rows : List Row) → Answers db (record { lets = []; body = copy_query from tests terms }) params rows
    → IsPermutation (map (shows terms params) (filter (passes tests params) (db.trees from))) rows
copied_rows from tests terms params own db rows h =
    let plain : Answers db (record { lets = []; body = query from tests terms [] }) params rows = record {
      typed = h.typed;
      answer = λ lost.
          let a : IsAnswerAs lost (copy_query from tests terms) (overlay db.trees []) params rows = h.answer lost in
          record { staged = a.staged; grouped = a.grouped; kept = a.kept; distinct = a.distinct; ordered = a.ordered; same = a.same; sorted = a.sorted; shown = a.shown };
    } in
    selected_over from tests terms [] params own db rows plain

-- ---- a row is numbered 1

self_equal : (v : Value) → is_eq (value_cmp v v) ≡ true
self_equal v = go (value_cmp v v) (value_cmp_total.antisymm v v)
  where
    go : (o : Ordering) → o ≡ ordering_reverse o → is_eq o ≡ true
    go Less e = absurd (cc)
    go Equal e = refl
    go Greater e = absurd (cc)

equal_turned : (v w : Value) → is_eq (value_cmp v w) ≡ true → is_eq (value_cmp w v) ≡ true
equal_turned v w is = ap is_eq (value_cmp_total.antisymm w v) ∙ go (value_cmp v w) is
  where
    go : (o : Ordering) → is_eq o ≡ true → is_eq (ordering_reverse o) ≡ true
    go Less e = absurd (cc)
    go Equal e = refl
    go Greater e = absurd (cc)

-- a value that equals 1 is a number, and a column of integers keeps it or an equal one
same_cast : (v : Value) → is_eq (value_cmp v (Int (pos 1))) ≡ true → is_eq (value_cmp v (cast Integer v)) ≡ true
same_cast Null is = absurd (let clash : false ≡ true = sym (ap is_eq (value_cmp-Null (Int (pos 1)))) ∙ is in cc)
same_cast (Int n) is = ap (λ v. is_eq (value_cmp (Int n) v)) (cast_int n) ∙ self_equal (Int n)
same_cast (Real x) is = elim (cases_Bool (is_eq (value_cmp (unary ToInt (Real x)) (Real x)) && is_lt (value_cmp (Real (minus_two_to 63)) (Real x)))) [
  | inl whole ↦ rw whole (equal_turned (unary ToInt (Real x)) (Real x) (and_parts _ _ whole).0)
  | inr other ↦ rw other (self_equal (Real x))
]
same_cast (Text t) is = absurd (let clash : false ≡ true = sym (ap is_eq (value_cmp-apart (Text t) (Int (pos 1)) (λ e. omega (arith, e)))) ∙ is in cc)
same_cast (Blob b) is = absurd (let clash : false ≡ true = sym (ap is_eq (value_cmp-apart (Blob b) (Int (pos 1)) (λ e. omega (arith, e)))) ∙ is in cc)

-- the row is taken out, and put with its number
marked_again : (r : Row) (n : ℤ) → is_eq (value_cmp (rowid r) (Int (pos 1))) ≡ true
    → are_fresh (without_all (r ∷ []) (id_value_in (rowid r) ∷ [])) ((cast Integer (rowid r) ∷ cast Integer Null ∷ cast Integer (Int n) ∷ []) ∷ []) ≡ true
    → map (λ (x : Row). column x 2) (put_all (without_all (r ∷ []) (id_value_in (rowid r) ∷ [])) ((cast Integer (rowid r) ∷ cast Integer Null ∷ cast Integer (Int n) ∷ []) ∷ [])) ≡ Int n ∷ []
marked_again r n is fresh = elim (cases_Bool (has_rowid (id_value_in (rowid r)) r)) [
  | inl own ↦ rw own (ap (λ (v : Value). v ∷ []) (cast_int n))
  | inr other ↦
      let free : (not (is_eq (value_cmp (rowid r) (cast Integer (rowid r))) || false) && true) ≡ true = rw other at fresh in
      absurd (let clash : false ≡ true = rw (same_cast (rowid r) is) at free in cc)
]

one_passes : {A : Type 0} (p : A → Bool) (x : A) → p x ≡ true → filter p (x ∷ []) ≡ x ∷ []
one_passes p x is = rw is refl

none_passes : {A : Type 0} (p : A → Bool) (x : A) → p x ≡ false → filter p (x ∷ []) ≡ []
none_passes p x is = rw is refl

-- ---- the tables of a schema

-- in this schema no table refers to another
abbrev pub HasNoKeys : Schema → Type 0
HasNoKeys schema = (tree : ℕ) (olds news : List Row) → works schema Enforced 0 tree olds news ≡ []

-- the tables stay, but for the one in this tree
abbrev pub OthersStay : Schema → (tree : ℕ) → (old new : Trees) → Type 0
OthersStay schema tree old new = (t : ℕ) → list_any (λ (x : Table). x.tree == t) schema.tables ≡ true → (t == tree) ≡ false → new t ≡ old t

same_number : (t : ℕ) → (t == t) ≡ true
same_number t = search arith

apart : (t tree : ℕ) → (t == tree) ≡ false → t ≢ tree
apart t tree other same = let clash : true ≡ false = sym (same_number t) ∙ ap (λ n. t == n) same ∙ other in cc

others_stay : (tables : List Table) (tree t : ℕ) (old new : Trees) → AllByRecursion (λ (x : Table). x.tree ≢ tree → new x.tree ≡ old x.tree) tables → list_any (λ (x : Table). x.tree == t) tables ≡ true → (t == tree) ≡ false → new t ≡ old t
others_stay [] tree t old new all there other = absurd (cc)
others_stay (x ∷ tables) tree t old new all there other = elim (cases_Bool (x.tree == t)) [
  | inl here ↦ let same : x.tree ≡ t = eqb-true x.tree t here in subst (λ n. new n ≡ old n) same (all.0 (λ e. apart t tree other (sym same ∙ e)))
  | inr later ↦ others_stay tables tree t old new all.1 (rw later at there) other
]

one_edit : (schema : Schema) (db next : Trees) (edit : Edit) → HasNoKeys schema → Writes schema Enforced db edit (Ok next) → Applies schema Enforced db edit next
one_edit schema db next edit alone writes = one_step schema Enforced db next edit (alone edit.table.tree (taken_by db edit) edit.news) writes

at_place : {A : Type 0} (P : Table → Part A) (o : Option Table) (it : Table) (out : Outcome A) → o ≡ Some it → AtPlace P o out → P it out
at_place P o it out is h = subst (λ p. AtPlace P p out) is h

-- ---- the statements, over the tables of a layout

module _ {Form : Type 0} (layout : Form → Schema) (form : Form) (s t : State) (count : ℕ) (has : s.now.schema ≡ layout form) (alone : HasNoKeys (layout form)) where
  abbrev schema : Schema
  schema = layout form

  abbrev task : Row → Table → Task
  task params table = record { limit = s.step_limit; keys = Enforced; schema = schema; table = table; params = params }

  -- the rows that pass the tests are copied
  pub copies : {sql : List ℕ} {place from : ℕ} {tests terms : List Term} (params : Row) → IsWrite layout sql (copy_command place from tests terms) → ((db : Trees) → overlay db [] from ≡ db from)
      → (name : List ℕ) (tree : ℕ) (columns : List Column) (order : Order) → slice_get schema.tables place ≡ Some (keyed_table name tree columns order)
      → (sent kept : Row → Row) (unnumbered : (v w : Value) (rest : Row) → kept (v ∷ rest) ≡ kept (w ∷ rest)) → KeepsEach kept unnumbered (keyed_table name tree columns order) terms sent params (filter (passes tests params) (s.now.trees from))
      → AreNumbered (s.now.trees tree) → Executes sql params s t (Ok count)
      → (t.now.schema ≡ schema) × (IsPermutation (map sent (filter (passes tests params) (s.now.trees from)) ++ map kept (s.now.trees tree)) (map kept (t.now.trees tree)) × AreNumbered (t.now.trees tree)) × OthersStay schema tree s.now.trees t.now.trees
  copies {sql} {place} {from} {tests} {terms} params is own name tree columns order at sent kept unnumbered same numbers executes =
      let it = keyed_table name tree columns order in
      let command = copy_command place from tests terms in
      let db = s.now.trees in
      let ran = runs_as sql params s t schema has command (is.means form) (is.plain form) count executes in
      let text = statement_of sql (understood schema sql) in
      let does = subst (λ x. Does s.step_limit plain_mode params (record s.now { schema = x }) text None command (Ok (ran.tally, t.now))) has ran.changed in
      let done = went (at_place (λ table. OnRows (task params table) plain_mode None command db) (slice_get schema.tables place) it (Ok (ran.tally, t.now)) at does) in
      let now = ap (λ (p : Tally × Database). p.1) (same_value (went (went done.2).2).2) in
      let given = went done.1 in
      let passed = filter (passes tests params) (db from) in
      let answers = subst (λ (values : Row). Answers (record { schema = schema; trees = db }) (record { lets = []; body = copy_query from tests terms }) values given.0) (append-nil params) given.1 in
      let all = copied_rows from tests terms params own (record { schema = schema; trees = db }) given.0 answers in
      let written = went (went given.2).2 in
      let counted = went written.2 in
      let trees : done.0.trees ≡ written.0 = ap (λ (w : Written). w.trees) (same_value counted.2) ∙ same_value counted.1 in
      let after : t.now.trees ≡ written.0 = ap (λ (d : Database). d.trees) now ∙ trees in
      let applied = one_edit schema db written.0 (edit_of db it [] Chosen 0 given.0) alone written.1 in
      let rows : t.now.trees tree ≡ put_all (db tree) (numbered Chosen (db tree) (map (λ r. cast_row it r) given.0)) = ap (λ (d : Trees). d tree) after ∙ applied.rows in (
        ap (λ (d : Database). d.schema) now,
        subst (λ l. IsPermutation (map sent passed ++ map kept (db tree)) (map kept l) × AreNumbered l) (sym rows) (all_copied kept unnumbered it terms sent params passed given.0 (db tree) same all numbers applied.keyed applied.fresh),
        λ n there other. ap (λ (d : Trees). d n) after ∙ others_stay schema.tables tree n db written.0 applied.tables there other,
      )

  -- the rows that pass the tests are deleted
  pub empties : {sql : List ℕ} {place tree : ℕ} {tests : List Term} (params : Row) → IsWrite layout sql (empty_command place tree tests) → ((db : Trees) → overlay db [] tree ≡ db tree)
      → (name : List ℕ) (columns : List Column) (order : Order) → slice_get schema.tables place ≡ Some (keyed_table name tree columns order) → AreNumbered (s.now.trees tree) → Executes sql params s t (Ok count)
      → (t.now.schema ≡ schema) × ((t.now.trees tree ≡ filter (λ r. not (passes tests params r)) (s.now.trees tree)) × AreNumbered (t.now.trees tree)) × OthersStay schema tree s.now.trees t.now.trees
  empties {sql} {place} {tree} {tests} params is own name columns order at numbers executes =
      let it = keyed_table name tree columns order in
      let command = empty_command place tree tests in
      let db = s.now.trees in
      let ran = runs_as sql params s t schema has command (is.means form) (is.plain form) count executes in
      let text = statement_of sql (understood schema sql) in
      let does = subst (λ x. Does s.step_limit plain_mode params (record s.now { schema = x }) text None command (Ok (ran.tally, t.now))) has ran.changed in
      let done = went (at_place (λ table. OnRows (task params table) plain_mode None command db) (slice_get schema.tables place) it (Ok (ran.tally, t.now)) at does) in
      let now = ap (λ (p : Tally × Database). p.1) (same_value (went (went done.2).2).2) in
      let given = went done.1 in
      let test = passes tests params in
      let all = selected_over tree tests empty_terms [] params own (record { schema = schema; trees = db }) given.0 given.1 in
      let written = went given.2 in
      let after : t.now.trees ≡ written.0 = ap (λ (d : Database). d.trees) now ∙ ap (λ (w : Written). w.trees) (same_value written.2) in
      let applied = one_edit schema db written.0 (edit_of db it (ids_of given.0) Given 0 []) alone written.1 in
      let rows : t.now.trees tree ≡ filter (λ r. not (test r)) (db tree) = ap (λ (d : Trees). d tree) after ∙ applied.rows ∙ rest_is test (shows empty_terms params) (λ r. refl) (db tree) given.0 numbers all in (
        ap (λ (d : Database). d.schema) now,
        (rows, subst AreNumbered (sym rows) (rest_numbered test (shows empty_terms params) (λ r. refl) (db tree) given.0 numbers all)),
        λ n there other. ap (λ (d : Trees). d n) after ∙ others_stay schema.tables tree n db written.0 applied.tables there other,
      )

  -- a statement that changed one row set its number
  pub renumbers : {sql : List ℕ} → IsWrite layout sql number_command → (name : List ℕ) (checks : List Term) → slice_get schema.tables 0 ≡ Some (format_table name checks)
      → (n : ℤ) (r : Row) → s.now.trees 0 ≡ r ∷ [] → count ≡ 1 → Executes sql (Int n ∷ []) s t (Ok count)
      → (t.now.schema ≡ schema) × (map (λ (x : Row). column x 2) (t.now.trees 0) ≡ Int n ∷ []) × OthersStay schema 0 s.now.trees t.now.trees
  renumbers {sql} is name checks at n r only changed executes =
      let it = format_table name checks in
      let params : Row = Int n ∷ [] in
      let db = s.now.trees in
      let ran = runs_as sql params s t schema has number_command (is.means form) (is.plain form) count executes in
      let text = statement_of sql (understood schema sql) in
      let does = subst (λ x. Does s.step_limit plain_mode params (record s.now { schema = x }) text None number_command (Ok (ran.tally, t.now))) has ran.changed in
      let done = went (at_place (λ table. OnRows (task params table) plain_mode None number_command db) (slice_get schema.tables 0) it (Ok (ran.tally, t.now)) at does) in
      let concluded = same_value (went (went done.2).2).2 in
      let now = ap (λ (p : Tally × Database). p.1) concluded in
      let rows : Some (length done.0.rows) ≡ ran.tally.rows = ap (λ (p : Tally × Database). p.0.rows) (sym concluded) in
      let given = went done.1 in
      let test = passes (one_is ∷ []) params in
      let all : IsPermutation (map (shows number_terms params) (filter test (r ∷ []))) given.0 = subst (λ l. IsPermutation (map (shows number_terms params) (filter test l)) given.0) only
      (selected_over 0 (one_is ∷ []) number_terms [] params (λ _. refl) (record { schema = schema; trees = db }) given.0 given.1) in
      let written = went given.2 in
      let edit = λ (l : List Row). edit_of db it (ids_of l) Given 1 l in
      let after : t.now.trees ≡ written.0 = ap (λ (d : Database). d.trees) now ∙ ap (λ (w : Written). w.trees) (same_value written.2) in
      let news : done.0.rows ≡ (edit given.0).news = ap (λ (w : Written). w.rows) (same_value written.2) in
      let applied = one_edit schema db written.0 (edit given.0) alone written.1 in
      let passed : test r ≡ true = elim (cases_Bool (test r)) [
        | inl holds ↦ holds
        | inr fails ↦
            let none : given.0 ≡ [] = nothing given.0 (subst (λ l. IsPermutation (map (shows number_terms params) l) given.0) (none_passes test r fails) all) in
            let zero : unwrap_or ran.tally.rows 0 ≡ 0 = ap (λ (o : Option ℕ). unwrap_or o 0) (sym rows ∙ ap (λ (l : List Row). Some (length l)) (news ∙ ap (λ (l : List Row). (edit l).news) none)) in
            absurd (omega (arith, zero, ran.counted, changed))
      ] in
      let one : given.0 ≡ shows number_terms params r ∷ [] = one_permutation _ given.0 (subst (λ l. IsPermutation (map (shows number_terms params) l) given.0) (one_passes test r passed) all) in
      let is_one : is_eq (value_cmp (rowid r) (Int (pos 1))) ≡ true = sym (and_true _ ∙ equal_rowid (rowid r) (pos 1)) ∙ passed in
      let fresh = subst (λ l. are_fresh (without_all l (ids_of (shows number_terms params r ∷ []))) (edit (shows number_terms params r ∷ [])).news ≡ true) only
      (subst (λ (l : List Row). are_fresh (without_all (db 0) (ids_of l)) (edit l).news ≡ true) one applied.fresh) in
      let table : t.now.trees 0 ≡ put_all (without_all (r ∷ []) (ids_of (shows number_terms params r ∷ []))) (edit (shows number_terms params r ∷ [])).news =
      ap (λ (d : Trees). d 0) after ∙ applied.rows ∙ ap (λ (l : List Row). edited db (edit l)) one
      ∙ ap (λ (l : List Row). put_all (without_all l (ids_of (shows number_terms params r ∷ []))) (edit (shows number_terms params r ∷ [])).news) only in (
        ap (λ (d : Database). d.schema) now,
        ap (map (λ (x : Row). column x 2)) table ∙ marked_again r n is_one fresh,
        λ m there other. ap (λ (d : Trees). d m) after ∙ others_stay schema.tables 0 m db written.0 applied.tables there other,
      )
