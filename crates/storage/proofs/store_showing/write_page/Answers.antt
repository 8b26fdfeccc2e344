use Rattle.std.proofs.Common.{◌≡◌, List, take, drop, sym, subst, ◌∙◌}
use Rattle.std.specs.Prelude.{OnOk}
use Rattle.std.specs.Io.KnownBytes.{Appends}
use Rattle.scim_resource.specs.Rows.{StoredRecord}
use Rattle.provider_core.proofs.MemoryLaws.{page-dropped}
use Rattle.provider_core.specs.declared.registry.TheConstants.{ROWS_AT_ONCE}
use Rattle.storage.specs.StoreLines.{lines_of}
use Rattle.storage.proofs.store_showing.write_page.Goals as goal

pub returns-clause-page : goal.returns-clause-page
returns-clause-page g c = λ faithful.
    let rows = g.R.Registry.rows c.args.rows.now in
    let page : c.as_slice.result.now ≡ take ROWS_AT_ONCE (drop c.args.after rows) =
    c.as_slice.ensures.value ∙ c.in_ok-page.ensures.ok faithful ∙ sym (page-dropped c.args.after ROWS_AT_ONCE rows (c.in_ok-page.ensures.numbered faithful)) in
    subst (λ (part : List StoredRecord). OnOk c.write_lines.result (Appends (g.W.Write.contents c.args.out.now) (g.W.Write.contents c.write_lines.new.out) (lines_of part))) page c.write_lines.ensures.lines
