-- What the rows of an answer show.
use Rattle.std.proofs.Common.{◌≡◌, codes, false, ℕ, List, [], ◌∷◌, map, filter, Option, Some, None, Result, IfOk, refl, sym, ap, ◌∙◌, subst, IsPermutation}
use Rattle.sqlite_value.specs.declared.value.Value.TheVariants.{Text}
use Rattle.sqlite_value.specs.Order.{Row, column}
use Rattle.sqlite_trees.proofs.ListLemmas.{all_of, filter_same}
use Rattle.sqlite_sql.specs.Term.{Env, col, eval, eval_all}
use Rattle.sqlite_sql.specs.Program.{overlay}
use Rattle.sqlite_trees.specs.Tree.{Trees, rowid}
use Rattle.sqlite.specs.State.{State}
use Rattle.scim_key.specs.declared.records.Kind.{Kind}
use Rattle.scim_key.specs.declared.records.Kind.TheVariants.{User, Group}
use Rattle.scim_key.specs.declared.records.RecordName.{RecordName}
use Rattle.journal_core.specs.declared.entries.Entry.{Entry}
use Rattle.journal_store.specs.Format.{all_text, entry_tree, find_text, journal_schema, numbers_text}
use Rattle.sql_tables.specs.Layouts.{IsLaid as IsLaidBy}
use Rattle.sqlite_schema.specs.declared.schema.Schema.{Schema}
use Rattle.sql_tables.specs.Statements.{Answers, IsGiven}
use Rattle.sql_tables.proofs.Selecting.{IsOrdered, ordered_over, passes, selected_over, shows}
use Rattle.sql_tables.proofs.Queries.{IsSelect, query}
use Rattle.sqlite_value.specs.declared.keys.Key.{Key}
use Rattle.sqlite_value.specs.declared.keys.Collation.TheVariants.{Binary}
use Rattle.sqlite_sql.specs.Term.{Term}
use Rattle.sqlite.specs.Effect.{Database, Reads}
use Rattle.sqlite.specs.Listing.{understood}
use Rattle.sqlite.proofs.Callers.{command_of}
use Rattle.sqlite_schema.specs.declared.command.Command.TheVariants.{Select}
use Rattle.journal_store.specs.Rows.{shown_row}
use Rattle.journal_store.specs.Connections.{AreShownBy, Finds, IsLaid, IsOnly, Lists, ListsAllBy, Shows, has_key}
use Rattle.sql_tables.proofs.Answering.{answered_by, empty, every, single}
use Rattle.sql_tables.proofs.Results.{if_ok}
use Rattle.journal_store.proofs.Texts.{all_is, find_is, key_is, names, number_shown, numbers_is, shown_terms}
use Rattle.journal_store.proofs.Selecting.{same_tree, shows_all, key_passes}

map_same : {A B : Type 0} (f g : A → B) → ((x : A) → f x ≡ g x) → (xs : List A) → map f xs ≡ map g xs
map_same f g same [] = refl
map_same f g same (x ∷ xs) = λ i. same x i ∷ map_same f g same xs i

-- ---- one name

pub rows_of_key : (s : State) (kind : Kind) (key : List ℕ) (rows : List Row) → IsLaid s → Answers (find_text kind) (Text key ∷ []) s rows
    → IsPermutation (map (shown_row kind) (filter (has_key key) (s.now.trees (entry_tree kind)))) rows
rows_of_key s kind key rows laid answers =
    let table = s.now.trees (entry_tree kind) in
    let params : Row = Text key ∷ [] in
    let all = answered_by s params rows (find_is kind) laid answers (same_tree kind) in
    let tests : filter (passes (key_is ∷ []) params) table ≡ filter (has_key key) table =
    filter_same (passes (key_is ∷ []) params) (has_key key) table (all_of (λ x. passes (key_is ∷ []) params x ≡ has_key key x) (λ x. key_passes key [] x) table) in
    subst (λ l. IsPermutation l rows) (ap (map (shows (shown_terms kind) params)) tests ∙ map_same (shows (shown_terms kind) params) (shown_row kind) (shows_all kind params) (filter (has_key key) table)) all

pub finds : (s : State) (name : RecordName) (rows : List Row) (held : Option Entry) → IsLaid s → Answers (find_text name.kind) (Text name.key ∷ []) s rows → IsOnly name.kind rows held → Finds s.now.trees name held
finds s name rows None laid answers only = empty (shown_row name.kind) _ (subst (IsPermutation (map (shown_row name.kind) (filter (has_key name.key) (s.now.trees (entry_tree name.kind))))) only (rows_of_key s name.kind name.key rows laid answers))
finds s name rows (Some e) laid answers only =
    let one = single (shown_row name.kind) _ only.0 (subst (IsPermutation (map (shown_row name.kind) (filter (has_key name.key) (s.now.trees (entry_tree name.kind))))) only.1 (rows_of_key s name.kind name.key rows laid answers)) in
    (one.0, one.1, subst (λ r. Shows name.kind r e) one.2 only.2)

-- ---- their order

by_key : (kind : Kind) (env : Env) → eval (col 1 1) env ≡ column (eval_all (shown_terms kind) env) 0
by_key User env = refl
by_key Group env = refl

-- what a query of all rows of a table answers
pub lists_by : {Form : Type 0} {layout : Form → Schema} (tree : ℕ) (own : (db : Trees) → overlay db [] tree ≡ db tree) (sql : List ℕ) (shown : List Term) (term : Term) (heads : List (List ℕ)) (columns : Row → Row)
    → IsSelect layout sql tree [] shown ((term, record { collation = Binary; descending = false }) ∷ []) heads 0
    → ((r : Row) → shows shown [] r ≡ columns r) → ((env : Env) → eval term env ≡ column (eval_all shown env) 0) → Lists layout tree columns sql
lists_by {layout = layout} tree own sql shown term heads columns it same first form trees c rows is reads =
    let db : Database = record { schema = layout form; trees = trees } in
    let order : List (Term × Key) = (term, record { collation = Binary; descending = false }) ∷ [] in
    let command : c.command ≡ Select (record { lets = []; body = query tree [] shown order }) heads = ap command_of (sym is) ∙ it.means form in
    let asked = subst (λ k. Reads k db [] rows) command reads in (
      subst (λ l. IsPermutation l rows) (ap (map (shows shown [])) (every (trees tree) []) ∙ map_same (shows shown []) columns same (trees tree))
          (selected_over tree [] shown order [] own db rows asked),
      ordered_over tree [] shown term [] first db rows asked,
    )

pub all_listed : (kind : Kind) → Lists journal_schema (entry_tree kind) (shown_row kind) (all_text kind)
all_listed kind = lists_by (entry_tree kind) (same_tree kind) (all_text kind) (shown_terms kind) (col 1 1) (names kind) (shown_row kind) (all_is kind) (shows_all kind []) (by_key kind)

pub numbers_listed : (kind : Kind) → Lists journal_schema (entry_tree kind) (λ (r : Row). rowid r ∷ []) (numbers_text kind)
numbers_listed kind = lists_by (entry_tree kind) (same_tree kind) (numbers_text kind) number_shown (col 1 0) (codes "rowid" ∷ []) (λ (r : Row). rowid r ∷ []) (numbers_is kind) (λ r. refl) (λ env. refl)

-- ---- what the calls answer

pub found_by : {F : Type 0} (s : State) (name : RecordName) (sql : List ℕ) (params : Row) (rows given : List Row) (r : Result (Option Entry) F) → sql ≡ find_text name.kind → params ≡ Text name.key ∷ [] → given ≡ rows
    → IsLaid s → Answers sql params s rows → IfOk r (IsOnly name.kind given) → IfOk r (Finds s.now.trees name)
found_by s name sql params rows given r text key same laid answers only =
    let asked : Answers (find_text name.kind) (Text name.key ∷ []) s rows =
    subst (λ p. Answers (find_text name.kind) p s rows) key (subst (λ t. Answers t params s rows) text answers) in
    if_ok r (λ held is. finds s name rows held laid asked (subst (λ l. IsOnly name.kind l held) same is)) only

pub rows_listed : {Form : Type 0} {layout : Form → Schema} (tree : ℕ) (columns : Row → Row) (s : State) (sql : List ℕ) (rows : List Row) → Lists layout tree columns sql → IsGiven layout sql [] → IsLaidBy layout s → Answers sql [] s rows
    → IsPermutation (map columns (s.now.trees tree)) rows × IsOrdered rows
rows_listed {layout = layout} tree columns s sql rows means given laid answers =
    let known = given.0 laid.form in
    let tables : s.now ≡ record { schema = layout laid.form; trees = s.now.trees } = λ i. record { schema = laid.schema i; trees = s.now.trees } in
    means laid.form s.now.trees known.0 rows known.1 (subst (λ (d : Database). Reads known.0.command d [] rows) tables (answers known.0 (ap (λ schema. understood schema sql) laid.schema ∙ known.1)))

pub listed_by : {Form : Type 0} {layout : Form → Schema} {X F : Type 0} (Valid : Row → Entry → Type 0) (tree : ℕ) (columns : Row → Row) (items : X → List Entry) (s : State) (sql : List ℕ) (rows given : List Row) (r : Result X F) → Lists layout tree columns sql → IsGiven layout sql []
    → given ≡ rows → IsLaidBy layout s → Answers sql [] s rows → IfOk r (λ x. AreShownBy Valid given (items x)) → IfOk r (λ x. ListsAllBy Valid columns (s.now.trees tree) (items x))
listed_by Valid tree columns items s sql rows given r means whole same laid answers shown =
    if_ok r (λ x are. record { rows = rows; all = (rows_listed tree columns s sql rows means whole laid answers).0; shown = subst (λ l. AreShownBy Valid l (items x)) same are }) shown
