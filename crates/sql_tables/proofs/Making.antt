-- What the making of the tables leaves.
use Rattle.std.proofs.Common.{◌≡◌, ℕ, ℤ, pos, List, [], ◌∷◌, false, None, Ok, refl, sym, ap, ◌∙◌, subst}
use Rattle.sqlite_value.specs.declared.value.Value.TheVariants.{Null, Int}
use Rattle.sqlite_value.specs.Order.{Row}
use Rattle.sqlite_trees.specs.Tree.{Trees}
use Rattle.sqlite_sql.specs.Term.{Term, lit, col}
use Rattle.sqlite_schema.specs.declared.schema.Schema.{Schema}
use Rattle.sqlite_schema.specs.declared.schema.Table.{Table}
use Rattle.sqlite_schema.specs.declared.command.Source.TheVariants.{Values}
use Rattle.sqlite_schema.specs.declared.command.Command.TheVariants.{Insert, CreateTable}
use Rattle.sqlite_resolve.specs.Compile.{table_defined_by}
use Rattle.sqlite_rules.specs.Edit.{edit_of, edited}
use Rattle.sqlite_rules.specs.declared.error.Rowids.TheVariants.{Chosen}
use Rattle.sqlite_catalog.specs.Change.{created, next_tree, KeepsRows}
use Rattle.sqlite.specs.Does.{Tally, Does, lacks_sequence}
use Rattle.sqlite.specs.Rows.{Written}
use Rattle.sqlite.specs.Listing.{understood}
use Rattle.sqlite.specs.Effect.{Database}
use Rattle.sqlite.specs.State.{State, mode_of, Writes, Executes}
use Rattle.sqlite.proofs.Callers.{IsPlain, command_of, statement_of, runs_as, one_step}
use Rattle.sql_tables.specs.Layouts.{format_schema, format_table}
use Rattle.sql_tables.proofs.Values.{cast_int, cast_null}
use Rattle.sql_tables.proofs.Editing.{went, same_value}

abbrev pub mark_terms : List Term
mark_terms = lit (Int (pos 1)) ∷ lit Null ∷ col 0 0 ∷ []

-- the table that a text defines, which is given its tree when it is made
abbrev pub IsTable : List ℕ → Schema → Table → Type 0
IsTable sql schema table = (command_of (understood schema sql) ≡ CreateTable) × (statement_of sql (understood schema sql) ≡ sql) × IsPlain (understood schema sql) × (table_defined_by sql ≡ Ok table)

-- ---- a table is made

pub creates : (sql : List ℕ) (schema : Schema) (table : Table) (old new : State) (count : ℕ) → IsTable sql schema table → lacks_sequence (created schema table) ≡ false → old.now.schema ≡ schema → Executes sql [] old new (Ok count)
    → (new.now.schema ≡ created schema table) × (new.now.trees (next_tree schema) ≡ []) × KeepsRows schema.tables old.now.trees new.now.trees
creates sql schema table old new count means plain has h =
    let w = subst (λ t. Writes old new None CreateTable t [] count) means.1 (runs_as sql [] old new schema has CreateTable means.0 means.2 count h) in
    let all = went w.changed in
    let first = went all.1 in
    let made = first.1 in
    let same : made.table ≡ table = same_value (sym made.defined ∙ means.3) in
    let is : first.0.schema ≡ created schema table = made.is ∙ ap (λ s. created s made.table) has ∙ ap (created schema) same in
    let no_more : lacks_sequence first.0.schema ≡ false = ap lacks_sequence is ∙ plain in
    let now : new.now ≡ first.0 = ap (λ (p : Tally × Database). p.1) (same_value all.2) ∙ same_value (rw no_more at first.2) in (
      ap (λ (d : Database). d.schema) now ∙ is,
      ap (λ (d : Database). d.trees (next_tree schema)) now ∙ subst (λ s. first.0.trees (next_tree s) ≡ []) has made.empty,
      subst (λ (d : Database). KeepsRows schema.tables old.now.trees d.trees) (sym now) (subst (λ (s : Schema). KeepsRows s.tables old.now.trees first.0.trees) has made.others),
    )

-- ---- the format is marked

-- the text adds the row with the number of the format
abbrev pub IsMarkText : List ℕ → Schema → Type 0
IsMarkText sql schema = (command_of (understood schema sql) ≡ Insert 0 (Values mark_terms 3)) × IsPlain (understood schema sql)

pub marks : (name sql : List ℕ) (a : List Term) (old new : State) (n : ℤ) (count : ℕ) → IsMarkText sql (format_schema name a) → old.now.schema ≡ format_schema name a → old.now.trees 0 ≡ [] → Executes sql (Int n ∷ []) old new (Ok count)
    → (new.now.schema ≡ format_schema name a) × (new.now.trees 0 ≡ (Int (pos 1) ∷ Null ∷ Int n ∷ []) ∷ [])
marks name sql a old new n count means has none h =
    let params : Row = Int n ∷ [] in
    let db = old.now.trees in
    let command = Insert 0 (Values mark_terms 3) in
    let w = runs_as sql params old new (format_schema name a) has command means.0 means.1 count h in
    let text = statement_of sql (understood (format_schema name a) sql) in
    let done = went (subst (λ s. Does old.step_limit (mode_of old) params (record old.now { schema = s }) text None command (Ok (w.tally, new.now))) has w.changed) in
    let now = ap (λ (p : Tally × Database). p.1) (same_value (went (went done.2).2).2) in
    let given = went done.1 in
    let written = went (went given.2).2 in
    let counted = went written.2 in
    let trees : done.0.trees ≡ written.0 = ap (λ (it : Written). it.trees) (same_value counted.2) ∙ same_value counted.1 in
    let rows = (one_step (format_schema name a) _ db written.0 (edit_of db (format_table name a) [] Chosen 0 given.0) refl written.1).rows in
    let edit : edited db (edit_of db (format_table name a) [] Chosen 0 given.0) ≡ (Int (pos 1) ∷ Null ∷ Int n ∷ []) ∷ [] =
    ap (λ all. edited db (edit_of db (format_table name a) [] Chosen 0 all)) given.1.1 ∙ rw (none, cast_int n, cast_int (pos 1), cast_null) refl in
    (ap (λ (d : Database). d.schema) now, ap (λ (d : Database). d.trees 0) now ∙ ap (λ (t : Trees). t 0) trees ∙ rows ∙ edit)
