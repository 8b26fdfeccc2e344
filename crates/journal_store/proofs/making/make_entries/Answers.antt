use Rattle.std.proofs.Common.{arith}
use Rattle.sqlite.specs.Held.{state}
use Rattle.sqlite.specs.State.{HasCleanDisk}
use Rattle.journal_store.proofs.OlderFormats.Carried.{tables_made}
use Rattle.journal_store.proofs.making.make_entries.Goals as goal

pub returns-clause-made : goal.returns-clause-made
returns-clause-made g c clean =
    let old = state g.S.Store c.args.tables.now.conn.now in
    let first = state g.S.Store c.execute.new.self.conn.now in
    let last = state g.S.Store c.execute-2.new.self.conn.now in
    let at_one : HasCleanDisk first = omega (arith, clean, c.execute-2.ensures.survives.clean) in
    let at_old : HasCleanDisk old = omega (arith, at_one, c.execute.ensures.survives.clean) in
    let one = c.in_ok-execute.ensures.runs at_one (c.requires.inside at_old) in
    let two = c.in_ok-execute-2.ensures.runs clean one.1.mode in
    tables_made old first last c.in_ok-execute.field-0 c.in_ok-execute-2.field-0 (c.requires.second at_old one.1.was_open) one.0 two.0
