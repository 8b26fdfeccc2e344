use Rattle.std.proofs.Common.{◌≡◌, ◌++◌, List, map, take, drop, sym, subst, ◌∙◌}
use Rattle.scim_resource.specs.Rows.{StoredRecord, shown}
use Rattle.provider_core.proofs.MemoryLaws.{page-dropped}
use Rattle.provider_core.proofs.listing.show_run.Goals as goal

pub returns-clause-ok : goal.returns-clause-ok
returns-clause-ok g c = λ faithful.
    let rows = g.R.Registry.rows c.args.registry.now in
    let page : c.deref.result.now ≡ take c.args.run (drop c.args.after rows) =
    c.deref.ensures.value ∙ c.in_ok-rows.ensures.ok faithful ∙ sym (page-dropped c.args.after c.args.run rows (c.in_ok-rows.ensures.numbered faithful)) in
    subst (λ (part : List StoredRecord). c.show_all.new.page.items ≡ c.args.page.now.items ++ map shown part) page c.in_ok-show_all.ensures
