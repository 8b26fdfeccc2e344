use Rattle.std.proofs.Common.{◌≡◌, List, take, drop, sym, subst, ◌∙◌}
use Rattle.scim_resource.specs.Rows.{StoredRecord}
use Rattle.provider_core.specs.Listing.{AddsRows}
use Rattle.provider_core.specs.declared.registry.TheConstants.{ROWS_AT_ONCE}
use Rattle.provider_core.proofs.MemoryLaws.{page-dropped}
use Rattle.provider_core.proofs.listing.add_page.Goals as goal

pub returns-clause-ok : goal.returns-clause-ok
returns-clause-ok g c = λ faithful.
    let rows = g.R.Registry.rows c.args.registry.now in
    let page : c.deref.result.now ≡ take ROWS_AT_ONCE (drop c.args.after rows) =
    c.deref.ensures.value ∙ c.in_ok-rows.ensures.ok faithful ∙ sym (page-dropped c.args.after ROWS_AT_ONCE rows (c.in_ok-rows.ensures.numbered faithful)) in
    subst (λ (part : List StoredRecord). AddsRows part c.args.places.now c.add_all.new.self) page c.in_ok-add_all.ensures
