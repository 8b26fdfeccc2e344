-- The number of the format, in its table and in an answer.
use Rattle.std.proofs.Common.{◌≡◌, ℕ, pos, List, [], ◌∷◌, map, refl, sym, ap, ◌∙◌, subst, IsPermutation}
use Rattle.sqlite_value.specs.declared.value.Value.{Value}
use Rattle.sqlite_value.specs.declared.value.Value.TheVariants.{Int}
use Rattle.sqlite_value.specs.Order.{Row, column}
use Rattle.sqlite_sql.specs.Term.{Term, col}
use Rattle.sqlite_schema.specs.declared.schema.Schema.{Schema}
use Rattle.sqlite_schema.specs.declared.command.Command.TheVariants.{Select}
use Rattle.sqlite.specs.Effect.{Database, Reads}
use Rattle.sqlite.specs.Listing.{understood}
use Rattle.sqlite.specs.State.{State}
use Rattle.sqlite.proofs.Callers.{command_of, one_permutation}
use Rattle.sql_tables.specs.Layouts.{IsFormat, IsLaid, IsMark, IsMarked, format_tree}
use Rattle.sql_tables.specs.Statements.{Answers, IsGiven, ShowsFormat}
use Rattle.sql_tables.specs.declared.marks.Mark.{Mark}
use Rattle.sql_tables.specs.declared.marks.Mark.TheVariants.{Own, Newer, Unmarked}
use Rattle.sql_tables.proofs.Queries.{IsSelect, query}
use Rattle.sql_tables.proofs.Selecting.{selected_over, shows}
use Rattle.sql_tables.proofs.Answering.{every, single}

-- the number of the format
abbrev pub marked_shown : List Term
marked_shown = col 1 2 ∷ []

pub shows_format : {Form : Type 0} {layout : Form → Schema} {sql : List ℕ} {heads : List (List ℕ)} {count : ℕ} → IsSelect layout sql format_tree [] marked_shown [] heads count → ShowsFormat layout sql
shows_format {layout = layout} {sql} {heads} it form trees c rows is reads =
    let db : Database = record { schema = layout form; trees = trees } in
    let command : c.command ≡ Select (record { lets = []; body = query format_tree [] marked_shown [] }) heads = ap command_of (sym is) ∙ it.means form in
    subst (λ l. IsPermutation (map (shows marked_shown []) l) rows) (every (trees format_tree) [])
    (selected_over format_tree [] marked_shown [] [] (λ _. refl) db rows (subst (λ k. Reads k db [] rows) command reads))

pub numbers_shown : {Form : Type 0} {layout : Form → Schema} (s : State) (sql : List ℕ) (rows : List Row) → ShowsFormat layout sql → IsGiven layout sql [] → IsLaid layout s → Answers sql [] s rows
    → IsPermutation (map (λ (r : Row). column r 2 ∷ []) (s.now.trees format_tree)) rows
numbers_shown {layout = layout} s sql rows shows_it given laid answers =
    let known = given.0 laid.form in
    let tables : s.now ≡ record { schema = layout laid.form; trees = s.now.trees } = λ i. record { schema = laid.schema i; trees = s.now.trees } in
    shows_it laid.form s.now.trees known.0 rows known.1 (subst (λ (d : Database). Reads known.0.command d [] rows) tables (answers known.0 (ap (λ schema. understood schema sql) laid.schema ∙ known.1)))

one_mapped : {A B : Type 0} (f : A → B) (xs : List A) (y : B) → map f xs ≡ y ∷ [] → (x : A) × (xs ≡ x ∷ []) × (f x ≡ y)
one_mapped f [] y is = absurd (cc)
one_mapped f (x ∷ []) y is = (x, refl, cc)
one_mapped f (x ∷ z ∷ xs) y is = absurd (cc)

module _ (s : State) (rows : List Row) (all : IsPermutation (map (λ (r : Row). column r 2 ∷ []) (s.now.trees format_tree)) rows) where
  -- what the rows show is in the table
  marked_found : (number : ℕ) → IsMarked rows number → IsFormat s number
  marked_found number marked =
      let show = λ (r : Row). column r 2 ∷ [] in
      let one = single show (s.now.trees format_tree) marked.0 (subst (IsPermutation (map show (s.now.trees format_tree))) marked.1 all) in
      let number_is : column one.0 2 ≡ Int (pos number) = sym (ap (λ row. column row 0) one.2) ∙ marked.2 in
      ap (map (λ (r : Row). column r 2)) one.1 ∙ ap (λ (v : Value). v ∷ []) number_is

  -- and what is in the table is what its rows show
  found_marked : (number : ℕ) → IsFormat s number → IsMarked rows number
  found_marked number format =
      let show = λ (r : Row). column r 2 ∷ [] in
      let one = one_mapped (λ (r : Row). column r 2) (s.now.trees format_tree) (Int (pos number)) format in
      let shown : rows ≡ show one.0 ∷ [] = one_permutation (show one.0) rows (subst (λ l. IsPermutation (map show l) rows) one.1 all) in
      (show one.0, shown, one.2)

  by_mark : (own : ℕ) (mark : Mark) → IsMark (IsMarked rows) own mark → IsMark (IsFormat s) own mark
  by_mark own Own it = marked_found own it
  by_mark own Newer it = (it.0, it.1, marked_found it.0 it.2)
  by_mark own Unmarked it = λ number low format. it number low (found_marked number format)

  pub mark_shown : (given : List Row) (own : ℕ) (mark : Mark) → given ≡ rows → IsMark (IsMarked given) own mark → IsMark (IsFormat s) own mark
  mark_shown given own mark same it = by_mark own mark (subst (λ l. IsMark (IsMarked l) own mark) same it)
