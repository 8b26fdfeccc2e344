use Rattle.std.proofs.Common.{◌^◌, ◌-◌, arith}
use Rattle.provider_core.specs.declared.registry.TheConstants.{ROWS_AT_ONCE}
use Rattle.storage.proofs.StoreShowingLemmas.{none_shown, more_shown, all_shown}
use Rattle.storage.proofs.store_showing.write_pages.Goals as goal

pub loop-after-init : goal.loop-after-init
loop-after-init g c = none_shown g.R.Registry (g.W.Write.contents c.args.out.now) c.in_ok-all.all c.count_of.new.rows

pub loop-after-preserved : goal.loop-after-preserved
loop-after-preserved g c =
    more_shown g.R.Registry (2 ^ 32 - 1) c.in_ok-all.all c.loop-after.after ROWS_AT_ONCE c.saturating_add-after.result
    (g.W.Write.contents c.args.out.now) (g.W.Write.contents c.loop-after.out) (g.W.Write.contents c.write_page.new.out)
    c.count_of.new.rows c.loop-after.rows c.write_page.new.rows (omega arith) c.saturating_add-after.ensures
    c.loop-after.invariant c.in_ok-write_page.ensures.reads c.in_ok-write_page.ensures.page

pub returns-clause-lines : goal.returns-clause-lines
returns-clause-lines g c =
    all_shown g.R.Registry c.in_ok-all.all c.loop-after.after (g.W.Write.contents c.args.out.now) (g.W.Write.contents c.loop-after.out)
    c.args.rows.now c.count_of.new.rows c.loop-after.rows (omega arith)
    c.in_ok-all.ensures.ok c.in_ok-all.ensures.reads.same c.loop-after.invariant
