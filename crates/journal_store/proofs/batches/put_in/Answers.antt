use Rattle.std.proofs.Common.{arith, sym}
use Rattle.sqlite.specs.Held.{state}
use Rattle.sqlite.specs.State.{HasCleanDisk}
use Rattle.journal_core.specs.declared.entries.Entry.{Entry}
use Rattle.sql_tables.proofs.Results.{on_ok}
use Rattle.journal_store.proofs.Batching.{puts_row, there_inside}
use Rattle.journal_store.proofs.batches.put_in.Goals as goal

pub put_entry_in-requires-clause-there : goal.put_entry_in-requires-clause-there
put_entry_in-requires-clause-there g c clean still is =
    let old = state g.S.Store c.args.tables.now.conn.now in
    let mid = state g.S.Store c.find_in.new.tables.conn.now in
    let early : HasCleanDisk old = omega (arith, clean, c.find_in.ensures.quiet.clean) in
    let same = c.in_ok-held.ensures.same clean in
    let entry : Entry = record { row = c.args.row.now; confirmed = c.learnt_of-confirmed.result.0; id = c.learnt_of-confirmed.result.1 } in
    there_inside old mid c.args.row.now c.in_ok-name.name c.in_ok-held.held entry c.is_some-is_there.result c.in_ok-name.ensures (sym (c.learnt_of-confirmed.ensures c.args.row.now)) c.is_some-is_there.ensures
    (c.in_ok-held.ensures.found clean) same (c.requires.numbers early same.0.was_open) is

pub returns-clause-put : goal.returns-clause-put
returns-clause-put g c clean =
    let old = state g.S.Store c.args.tables.now.conn.now in
    let mid = state g.S.Store c.find_in.new.tables.conn.now in
    let new = state g.S.Store c.put_entry_in.new.tables.conn.now in
    let entry : Entry = record { row = c.args.row.now; confirmed = c.learnt_of-confirmed.result.0; id = c.learnt_of-confirmed.result.1 } in
    let later : HasCleanDisk mid = omega (arith, clean, c.put_entry_in.ensures.goes_on.quiet.clean) in
    on_ok c.put_entry_in.result
    (puts_row old mid c.args.row.now c.in_ok-name.name c.in_ok-held.held entry c.is_some-is_there.result c.in_ok-name.ensures (sym (c.learnt_of-confirmed.ensures c.args.row.now)) c.is_some-is_there.ensures
    (c.in_ok-held.ensures.found later) (c.in_ok-held.ensures.same later) new)
    (c.put_entry_in.ensures.made clean)
