use Rattle.std.proofs.Common.{arith}
use Rattle.sqlite.specs.Held.{state}
use Rattle.sqlite.specs.State.{HasCleanDisk}
use Rattle.sqlite.specs.Values.{bound}
use Rattle.journal_store.proofs.Batching.{ran_inside}
use Rattle.journal_store.proofs.batches.write_in.Goals as goal

pub returns-in-Ok-clause-ran : goal.returns-in-Ok-clause-ran
returns-in-Ok-clause-ran g c clean =
    let old = state g.S.Store c.args.tables.now.conn.now in
    let new = state g.S.Store c.execute.new.self.conn.now in
    let early : HasCleanDisk old = omega (arith, clean, c.execute.ensures.survives.clean) in
    let it = c.in-Ok.ensures.runs clean (c.requires.under_way.inside early) in
    ran_inside old new c.args.sql.now (bound c.args.params.now) c.in-Ok.field-0 c.requires.edit (c.requires.under_way.laid early it.1.was_open) it
