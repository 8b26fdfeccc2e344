use Rattle.std.proofs.Common.{IsTrue, refl, sym, ◌∙◌, subst, rules, tests}
use Rattle.sqlite.specs.Effect.{Database}
use Rattle.journal_core.specs.Entries.{CanPutRows, with_rows}
use Rattle.journal_store.specs.Batches.{PutsRows}
use Rattle.journal_store.specs.Rows.{entries_in}
use Rattle.journal_store.proofs.Batching.{rows_mean}
use Rattle.journal_store.specs.Calls.{Writes}
use Rattle.journal_store.specs.Kept.{Kept, IsFaithful, kept_entries}
use Rattle.journal_store.proofs.Reading.{writes, writes_open, writes_sound}
use Rattle.journal_store.proofs.journal.SqlJournal.put.Goals as goal

pub put_all-made-requires-clause-lawful : goal.put_all-made-requires-clause-lawful
put_all-made-requires-clause-lawful g c clean still =
    let old : Kept g.row.S.Denot = record { conn = c.self.inside.conn; is_usable = c.self.inside.is_usable; faults = c.self.inside.faults; writes = c.self.inside.writes } in
    let was_usable : IsTrue c.self.inside.is_usable = search (rules, tests) in
    let whole = c.self.invariant clean still was_usable in
    let can = subst (λ (k : Kept g.row.S.Denot). IsFaithful g.S.Store k → CanPutRows (kept_entries g.S.Store k) c.args.rows.now) (sym c.self.view_is) c.requires.lawful in
    subst (λ (d : Database). CanPutRows (entries_in d.trees) c.args.rows.now) whole.laid.committed (can (record { clean = clean; is_open = still; usable = was_usable; whole = whole }))

pub invariant_of-self-2 : goal.invariant_of-self-2
invariant_of-self-2 g c =
    let old : Kept g.row.S.Denot = record { conn = c.self.inside.conn; is_usable = c.self.inside.is_usable; faults = c.self.inside.faults; writes = c.self.inside.writes } in
    let new : Kept g.row.S.Denot = record { conn = c.put_all-made.new.conn; is_usable = c.self.inside.is_usable; faults = c.concluded.new.faults; writes = c.concluded.new.writes } in
    let was_usable : IsTrue c.self.inside.is_usable = search (rules, tests) in
    let can = subst (λ (k : Kept g.row.S.Denot). IsFaithful g.S.Store k → CanPutRows (kept_entries g.S.Store k) c.args.rows.now) (sym c.self.view_is) c.requires.lawful in
    writes_sound g.S.Store old new (with_rows (kept_entries g.S.Store old) c.args.rows.now) (PutsRows c.args.rows.now) c.self.invariant was_usable refl (rows_mean g.S.Store old c.args.rows.now can) c.put_all-made.ensures.changes.stop c.put_all-made.result c.put_all-made.ensures.changes.made c.put_all-made.ensures.changes.keeps

pub returns-clause-puts : goal.returns-clause-puts
returns-clause-puts g c =
    let old : Kept g.row.S.Denot = record { conn = c.self.inside.conn; is_usable = c.self.inside.is_usable; faults = c.self.inside.faults; writes = c.self.inside.writes } in
    let new : Kept g.row.S.Denot = record { conn = c.put_all-made.new.conn; is_usable = c.self.inside.is_usable; faults = c.concluded.new.faults; writes = c.concluded.new.writes } in
    let was_usable : IsTrue c.self.inside.is_usable = search (rules, tests) in
    let can = subst (λ (k : Kept g.row.S.Denot). IsFaithful g.S.Store k → CanPutRows (kept_entries g.S.Store k) c.args.rows.now) (sym c.self.view_is) c.requires.lawful in
    subst (λ (k : Kept g.row.S.Denot). Writes g.S.Store k new (with_rows (kept_entries g.S.Store k) c.args.rows.now) c.concluded.result) c.self.view_is
    (writes g.S.Store old new (with_rows (kept_entries g.S.Store old) c.args.rows.now) (PutsRows c.args.rows.now) c.self.invariant was_usable refl (rows_mean g.S.Store old c.args.rows.now can) c.put_all-made.ensures.changes.stop c.concluded.result c.concluded.ensures.faults c.concluded.ensures.written c.concluded.ensures.unwritten c.put_all-made.result c.put_all-made.ensures.changes.made c.put_all-made.ensures.changes.keeps (c.concluded.ensures.is ∙ c.call_result.ensures))

pub returns-clause-open : goal.returns-clause-open
returns-clause-open g c =
    let old : Kept g.row.S.Denot = record { conn = c.self.inside.conn; is_usable = c.self.inside.is_usable; faults = c.self.inside.faults; writes = c.self.inside.writes } in
    let new : Kept g.row.S.Denot = record { conn = c.put_all-made.new.conn; is_usable = c.self.inside.is_usable; faults = c.concluded.new.faults; writes = c.concluded.new.writes } in
    let was_usable : IsTrue c.self.inside.is_usable = search (rules, tests) in
    let can = subst (λ (k : Kept g.row.S.Denot). IsFaithful g.S.Store k → CanPutRows (kept_entries g.S.Store k) c.args.rows.now) (sym c.self.view_is) c.requires.lawful in
    writes_open g.S.Store old new (with_rows (kept_entries g.S.Store old) c.args.rows.now) (PutsRows c.args.rows.now) c.self.invariant was_usable refl (rows_mean g.S.Store old c.args.rows.now can) c.put_all-made.ensures.changes.stop c.put_all-made.result c.put_all-made.ensures.changes.made c.concluded.result (c.concluded.ensures.is ∙ c.call_result.ensures)
