use Rattle.std.proofs.Common.{◌∙◌}
use Rattle.sqlite.specs.Held.{state}
use Rattle.journal_store.proofs.Batching.{put_next, put_none}
use Rattle.journal_store.proofs.batches.put_each.Goals as goal

pub loop-row-init : goal.loop-row-init
loop-row-init g c =
    let it = c.in_ok-check_open.ensures in (
      put_none c.args.rows.now (state g.S.Store c.args.tables.now.conn.now) (state g.S.Store c.check_open.new.tables.conn.now) c.requires.under_way c.requires.numbers c.requires.lawful it.same it.left it.quiet,
      it.same_reference,
    )

pub loop-row-preserved : goal.loop-row-preserved
loop-row-preserved g c =
    let put = c.in_ok-put_in.ensures in (
      put_next c.args.rows.now c.loop-row.row-index c.row-item.result (state g.S.Store c.args.tables.now.conn.now) (state g.S.Store c.loop-row.tables.conn.now) (state g.S.Store c.put_in.new.tables.conn.now)
          c.loop-row-test.true c.row-item.is c.loop-row.invariant.0 put.under_way put.goes_on.left put.goes_on.quiet put.goes_on.is_open put.put,
      put.same_reference ∙ c.loop-row.invariant.1,
    )
