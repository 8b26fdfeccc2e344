use Rattle.std.proofs.Common.{arith}
use Rattle.sqlite.specs.Held.{state}
use Rattle.sqlite.specs.State.{HasCleanDisk}
use Rattle.sql_tables.proofs.Looking.{looks_then}
use Rattle.provider_store.proofs.Naming.{page_step}
use Rattle.provider_store.proofs.opening.check_pages.Goals as goal

pub returns-then-count-last-clause-lawful : goal.returns-then-count-last-clause-lawful
returns-then-count-last-clause-lawful g c clean =
    let old = state g.S.Store c.args.conn.now in
    let mid = state g.S.Store c.loop-count.conn in
    let so_far = c.loop-count.invariant in
    let it = c.in_ok-page.ensures in
    let early : HasCleanDisk mid = omega (arith, clean, it.checks.looks.quiet.clean) in
    (page_step old mid so_far.0 c.requires.laid c.requires.sound c.requires.numbered early ((it.checks.looks.keeps clean).was_open (it.checks.is_open clean)) c.loop-count.count c.min-last.result c.page_end-count.result c.in-Some.page.items c.as_slice.result.now
    (so_far.2 early) (rw c.in-Some.is at (it.found clean)) c.as_slice.ensures.value c.page_end-count.ensures).0

pub loop-count-preserved : goal.loop-count-preserved
loop-count-preserved g c =
    let old = state g.S.Store c.args.conn.now in
    let mid = state g.S.Store c.loop-count.conn in
    let new = state g.S.Store c.find_page.new.conn in
    let so_far = c.loop-count.invariant in
    let it = c.in_ok-page.ensures in
    let looks = it.checks.looks in (
      looks_then old mid new so_far.0 looks,
      it.checks.is_open,
      λ clean.
          let early : HasCleanDisk mid = omega (arith, clean, it.checks.looks.quiet.clean) in
          (page_step old mid so_far.0 c.requires.laid c.requires.sound c.requires.numbered early ((it.checks.looks.keeps clean).was_open (it.checks.is_open clean)) c.loop-count.count c.min-last.result c.page_end-count.result c.in-Some.page.items c.as_slice.result.now
          (so_far.2 early) (rw c.in-Some.is at (it.found clean)) c.as_slice.ensures.value c.page_end-count.ensures).0,
      omega arith,
    )
