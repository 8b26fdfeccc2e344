-- The query for the number in a table of the format, whatever tables follow.
use Rattle.std.proofs.Common.{◌≡◌, ◌==◌, true, false, List, [], ◌∷◌, codes, drop, length, slice_index_or, refl, sym, ap, ◌∙◌, arith}
use Rattle.std.proofs.lemmas.Bool.{eqb-true}
use Rattle.sqlite_schema.specs.declared.schema.Schema.{Schema}
use Rattle.sqlite_schema.specs.declared.schema.Table.{Table}
use Rattle.sqlite_tied.specs.Compute.{everything}
use Rattle.sqlite_typing.specs.Types.{accepts_program}
use Rattle.sqlite.specs.Listing.{understood}
use Rattle.sql_tables.specs.Layouts.{format_table, format_tree}
use Rattle.sql_tables.specs.Statements.{IsGiven}
use Rattle.sql_tables.proofs.Marking.{marked_shown}
use Rattle.sql_tables.proofs.Queries.{IsSelect, given_by, query}
use Rattle.journal_store.specs.Format.{MarkedForm, marked_schema, marked_text}
use Rattle.journal_store.specs.Tables.{format_name}
use Rattle.journal_store.specs.Opening.{HasFormatTable}

pub unknown_marked_is : IsSelect marked_schema marked_text format_tree [] marked_shown [] (codes "number" ∷ []) 0
unfolding understood everything
unknown_marked_is = record { means = λ f. refl; reads = λ f. ((refl, refl), refl); fits = λ f. (refl, refl) }

marked_accepted : (f : MarkedForm) → accepts_program (marked_schema f) [] (query format_tree [] marked_shown []) [] ≡ true
unfolding everything
marked_accepted f = refl

pub unknown_marked_given : IsGiven marked_schema marked_text []
unknown_marked_given = given_by [] unknown_marked_is refl marked_accepted

-- ---- the first table

begins_with : (tables : List Table) (table : Table) → (length tables == 0) ≡ false → table ≡ slice_index_or tables 0 table → tables ≡ table ∷ drop 1 tables
begins_with [] table some is = absurd (cc)
begins_with (t ∷ tables) table some is = ap (λ x. x ∷ tables) (sym is)

pub marked_by : (schema : Schema) (table : Table) → (length schema.tables == 0) ≡ false → table ≡ slice_index_or schema.tables 0 table → table ≡ format_table format_name table.checks → HasFormatTable schema
marked_by schema table some is format = record {
  form = record { format_checks = table.checks; tables = drop 1 schema.tables; indexes = schema.indexes; views = schema.views };
  is = λ i. record { tables = (begins_with schema.tables table some is ∙ ap (λ t. t ∷ drop 1 schema.tables) format) i; indexes = schema.indexes; views = schema.views };
}

pub table_marked : (schema : Schema) (table : Table) → HasFormatTable schema → table ≡ slice_index_or schema.tables 0 table → table ≡ format_table format_name table.checks
table_marked schema table it is =
    let same : table ≡ format_table format_name it.form.format_checks = is ∙ ap (λ (s : Schema). slice_index_or s.tables 0 table) it.is in
    same ∙ ap (format_table format_name) (sym (ap (λ (t : Table). t.checks) same))

pub none_marked : (schema : Schema) → HasFormatTable schema → (length schema.tables == 0) ≡ true → ⊥
none_marked schema it none = absurd (omega (arith, eqb-true (length schema.tables) 0 none, ap (λ (s : Schema). length s.tables) it.is))
