use Rattle.std.proofs.Common.{arith}
use Rattle.sqlite.specs.Held.{state}
use Rattle.sqlite.specs.State.{HasCleanDisk}
use Rattle.sqlite.specs.Values.{bound}
use Rattle.sql_tables.proofs.Results.{on_ok}
use Rattle.journal_store.specs.Batches.{settled}
use Rattle.journal_store.proofs.Undertaking.{reset_edits, reset_made}
use Rattle.journal_store.proofs.resets.reset_in.Goals as goal

pub write_in-requires-clause-edit : goal.write_in-requires-clause-edit
write_in-requires-clause-edit g c = rw c.reset_statement.ensures (reset_edits c.args.kind)

pub returns-clause-made : goal.returns-clause-made
returns-clause-made g c clean =
    let old = state g.S.Store c.args.tables.now.conn.now in
    let new = state g.S.Store c.write_in.new.tables.conn.now in
    let early : HasCleanDisk old = omega (arith, clean, c.write_in.ensures.goes_on.quiet.clean) in
    on_ok c.write_in.result
    (λ ran. reset_made (settled old) (settled new) c.args.kind c.reset_statement.result.now (bound c.none_params.result) c.reset_statement.ensures c.none_params.ensures (c.requires.under_way.laid early ran.was_open) (c.requires.listed early ran.was_open) ran)
    (c.write_in.ensures.ran clean)
