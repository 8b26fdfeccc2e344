use Rattle.std.proofs.Common.{true, refl, sym, subst}
use Rattle.sqlite.specs.Held.{state}
use Rattle.journal_store.specs.Kept.{Kept}
use Rattle.journal_store.specs.Opening.{Becomes, Stands}
use Rattle.journal_store.proofs.Opened.{stood}
use Rattle.journal_store.proofs.Reopening.{committed_entries, whole_of}
use Rattle.journal_store.proofs.journal.SqlJournal.open.Goals as goal

pub invariant_of-result : goal.invariant_of-result
invariant_of-result g c clean still usable =
    let new : Kept g.row.S.Denot = record { conn = c.open_tables.new.conn; is_usable = true; faults = 0; writes = 0 } in
    let it = c.in-Ok.ensures.stands clean in
    whole_of g.S.Store new it.0 it.1.store

pub returns-in-Ok-clause-faithful : goal.returns-in-Ok-clause-faithful
returns-in-Ok-clause-faithful g c clean =
    let new : Kept g.row.S.Denot = record { conn = c.open_tables.new.conn; is_usable = true; faults = 0; writes = 0 } in
    let it = c.in-Ok.ensures.stands clean in
    record { clean = clean; is_open = c.in-Ok.ensures.open clean; usable = refl; whole = whole_of g.S.Store new it.0 it.1.store }

pub returns-in-Ok-clause-entries : goal.returns-in-Ok-clause-entries
returns-in-Ok-clause-entries g c clean =
    let it = c.in-Ok.ensures.stands clean in
    subst (Stands (state g.S.Store c.args.conn)) (sym (committed_entries (state g.S.Store c.open_tables.new.conn) it.0 it.1.store)) (stood (state g.S.Store c.args.conn) (state g.S.Store c.open_tables.new.conn) it.0 it.1.stands)

pub returns-in-Ok-clause-becomes : goal.returns-in-Ok-clause-becomes
returns-in-Ok-clause-becomes g c clean =
    let it = c.in-Ok.ensures.stands clean in
    subst (Becomes (state g.S.Store c.args.conn) (state g.S.Store c.open_tables.new.conn)) (sym (committed_entries (state g.S.Store c.open_tables.new.conn) it.0 it.1.store)) it.1
