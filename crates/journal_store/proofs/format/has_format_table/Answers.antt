use Rattle.std.proofs.Common.{◌≡◌, ◌==◌, false, length, slice_index_or, sym, ap, ◌∙◌}
use Rattle.journal_store.proofs.Unknown.{marked_by, none_marked, table_marked}
use Rattle.journal_store.proofs.format.has_format_table.Goals as goal

pub returns-then-not-is_empty-clause-is : goal.returns-then-not-is_empty-clause-is
returns-then-not-is_empty-clause-is c is =
    let schema = c.args.schema.now in
    let table = c.index-tables-0.result in
    let some : (length schema.tables == 0) ≡ false = ap (λ tables. length tables == 0) (sym c.as_slice-tables.ensures) ∙ sym c.is_empty.ensures ∙ c.if-not-is_empty.true in
    marked_by schema table some (c.index-tables-0.is ∙ ap (λ tables. slice_index_or tables 0 table) c.as_slice-tables.ensures) (c.is_format.ensures.is is)

pub returns-then-not-is_empty-clause-known : goal.returns-then-not-is_empty-clause-known
returns-then-not-is_empty-clause-known c it =
    let table = c.index-tables-0.result in
    c.is_format.ensures.known (table_marked c.args.schema.now table it (c.index-tables-0.is ∙ ap (λ tables. slice_index_or tables 0 table) c.as_slice-tables.ensures))

pub returns-else-not-is_empty-clause-known : goal.returns-else-not-is_empty-clause-known
returns-else-not-is_empty-clause-known c it =
    absurd (none_marked c.args.schema.now it (ap (λ tables. length tables == 0) (sym c.as_slice-tables.ensures) ∙ sym c.is_empty.ensures ∙ c.if-not-is_empty.false))
