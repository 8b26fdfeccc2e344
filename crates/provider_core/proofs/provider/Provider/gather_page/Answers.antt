use Rattle.std.proofs.Common.{◌≡◌, List, take, drop, sym, subst, ◌∙◌}
use Rattle.std.specs.Prelude.{OnOk}
use Rattle.scim_resource.specs.Rows.{StoredRecord}
use Rattle.provider_core.specs.Gathering.{GoesThrough}
use Rattle.provider_core.specs.declared.registry.TheConstants.{ROWS_AT_ONCE}
use Rattle.provider_core.proofs.CallLaws.{reads-then}
use Rattle.provider_core.proofs.MemoryLaws.{page-dropped}
use Rattle.provider_core.proofs.provider.Provider.gather_page.Goals as goal

pub returns-clause-ok : goal.returns-clause-ok
returns-clause-ok g c =
    rw (← c.self.view_is) (λ faithful.
    let rows = g.R.Registry.rows c.self.inside.registry in
    let page : c.deref.result.now ≡ take ROWS_AT_ONCE (drop c.args.after rows) =
    c.deref.ensures.value ∙ c.in_ok-rows.ensures.ok faithful ∙ sym (page-dropped c.args.after ROWS_AT_ONCE rows (c.in_ok-rows.ensures.numbered faithful)) in
    subst (λ (part : List StoredRecord). OnOk c.look_through.result (GoesThrough c.args.kind c.args.filter.now part c.args.gathered.now c.look_through.new.self)) page c.look_through.ensures.through)

pub returns-clause-reads : goal.returns-clause-reads
returns-clause-reads g c = rw (← c.self.view_is) (reads-then g.R.Registry c.in_ok-rows.ensures.reads c.look_through.ensures.counts)
