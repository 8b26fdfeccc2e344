use Rattle.std.proofs.Common.{◌≡◌, ◌+◌, ◌∙◌, min, IfOk, ap, subst, sym, arith}
use Rattle.sqlite.specs.Held.{state}
use Rattle.sqlite.specs.State.{HasCleanDisk}
use Rattle.provider_core.specs.Rows.{page_after}
use Rattle.provider_store.specs.Kept.{Kept, kept_rows}
use Rattle.provider_store.proofs.Scanning.{page_answer}
use Rattle.provider_store.proofs.registry.SqlRegistryRegistry.scan.Goals as goal

pub returns-clause-ok : goal.returns-clause-ok
returns-clause-ok g c faithful =
    let call = c.find_page-found.ensures in
    let early : HasCleanDisk (state g.S.Store c.self.inside.conn) = omega (arith, faithful.clean, call.checks.looks.quiet.clean) in
    let whole = c.self.invariant early ((call.checks.looks.keeps faithful.clean).was_open faithful.is_open) faithful.usable in
    subst (λ (k : Kept g.row.S.Denot). IfOk c.page_of.result (λ page. page.items ≡ page_after c.args.after c.args.limit (kept_rows g.S.Store k))) c.self.view_is
    (page_answer g.S.Store _ whole (λ page. page.items) c.args.after c.args.limit c.last_of-last.result c.saturating_sub.result c.page_of.result c.find_page-found.result (c.last_of-last.ensures ∙ ap (λ (k : Kept g.row.S.Denot). min (c.args.after + c.args.limit) k.count) (sym c.self.view_is)) c.saturating_sub.ensures c.page_of.ensures.found (call.found faithful.clean))
