use Rattle.std.proofs.Common.{IsTrue, refl, sym, ◌∙◌, subst, rules, tests}
use Rattle.sqlite.specs.Held.{state}
use Rattle.journal_core.specs.Forgetting.{forgotten}
use Rattle.journal_store.specs.Resets.{AreListed, ResetsAll}
use Rattle.journal_store.proofs.Unlearning.{resets_mean}
use Rattle.journal_store.specs.Calls.{Writes}
use Rattle.journal_store.specs.Kept.{Kept, IsFaithful, kept_entries}
use Rattle.journal_store.proofs.Reading.{writes, writes_open, writes_sound}
use Rattle.journal_store.proofs.journal.SqlJournal.forget.Goals as goal

pub reset_all-made-requires-clause-listed : goal.reset_all-made-requires-clause-listed
reset_all-made-requires-clause-listed g c clean still =
    let old : Kept g.row.S.Denot = record { conn = c.self.inside.conn; is_usable = c.self.inside.is_usable; faults = c.self.inside.faults; writes = c.self.inside.writes } in
    let was_usable : IsTrue c.self.inside.is_usable = search (rules, tests) in
    let whole = c.self.invariant clean still was_usable in
    let listed = subst (λ (k : Kept g.row.S.Denot). IsFaithful g.S.Store k → AreListed (state g.S.Store k.conn).now.trees) (sym c.self.view_is) c.requires.listed in
    listed (record { clean = clean; is_open = still; usable = was_usable; whole = whole })

pub invariant_of-self-2 : goal.invariant_of-self-2
invariant_of-self-2 g c =
    let old : Kept g.row.S.Denot = record { conn = c.self.inside.conn; is_usable = c.self.inside.is_usable; faults = c.self.inside.faults; writes = c.self.inside.writes } in
    let new : Kept g.row.S.Denot = record { conn = c.reset_all-made.new.conn; is_usable = c.self.inside.is_usable; faults = c.concluded.new.faults; writes = c.concluded.new.writes } in
    let was_usable : IsTrue c.self.inside.is_usable = search (rules, tests) in
    let listed = subst (λ (k : Kept g.row.S.Denot). IsFaithful g.S.Store k → AreListed (state g.S.Store k.conn).now.trees) (sym c.self.view_is) c.requires.listed in
    writes_sound g.S.Store old new (forgotten (kept_entries g.S.Store old)) (ResetsAll) c.self.invariant was_usable refl (resets_mean g.S.Store old listed) c.reset_all-made.ensures.changes.stop c.reset_all-made.result c.reset_all-made.ensures.changes.made c.reset_all-made.ensures.changes.keeps

pub returns-clause-puts : goal.returns-clause-puts
returns-clause-puts g c =
    let old : Kept g.row.S.Denot = record { conn = c.self.inside.conn; is_usable = c.self.inside.is_usable; faults = c.self.inside.faults; writes = c.self.inside.writes } in
    let new : Kept g.row.S.Denot = record { conn = c.reset_all-made.new.conn; is_usable = c.self.inside.is_usable; faults = c.concluded.new.faults; writes = c.concluded.new.writes } in
    let was_usable : IsTrue c.self.inside.is_usable = search (rules, tests) in
    let listed = subst (λ (k : Kept g.row.S.Denot). IsFaithful g.S.Store k → AreListed (state g.S.Store k.conn).now.trees) (sym c.self.view_is) c.requires.listed in
    subst (λ (k : Kept g.row.S.Denot). Writes g.S.Store k new (forgotten (kept_entries g.S.Store k)) c.concluded.result) c.self.view_is
    (writes g.S.Store old new (forgotten (kept_entries g.S.Store old)) (ResetsAll) c.self.invariant was_usable refl (resets_mean g.S.Store old listed) c.reset_all-made.ensures.changes.stop c.concluded.result c.concluded.ensures.faults c.concluded.ensures.written c.concluded.ensures.unwritten c.reset_all-made.result c.reset_all-made.ensures.changes.made c.reset_all-made.ensures.changes.keeps (c.concluded.ensures.is ∙ c.call_result.ensures))

pub returns-clause-open : goal.returns-clause-open
returns-clause-open g c =
    let old : Kept g.row.S.Denot = record { conn = c.self.inside.conn; is_usable = c.self.inside.is_usable; faults = c.self.inside.faults; writes = c.self.inside.writes } in
    let new : Kept g.row.S.Denot = record { conn = c.reset_all-made.new.conn; is_usable = c.self.inside.is_usable; faults = c.concluded.new.faults; writes = c.concluded.new.writes } in
    let was_usable : IsTrue c.self.inside.is_usable = search (rules, tests) in
    let listed = subst (λ (k : Kept g.row.S.Denot). IsFaithful g.S.Store k → AreListed (state g.S.Store k.conn).now.trees) (sym c.self.view_is) c.requires.listed in
    writes_open g.S.Store old new (forgotten (kept_entries g.S.Store old)) (ResetsAll) c.self.invariant was_usable refl (resets_mean g.S.Store old listed) c.reset_all-made.ensures.changes.stop c.reset_all-made.result c.reset_all-made.ensures.changes.made c.concluded.result (c.concluded.ensures.is ∙ c.call_result.ensures)
