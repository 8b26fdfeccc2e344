use Rattle.std.proofs.Common.{IsTrue, refl, sym, ◌∙◌, subst, rules, tests}
use Rattle.journal_core.specs.Entries.{CanPutLearnt, with_learnt}
use Rattle.journal_store.specs.Learning.{Learns}
use Rattle.journal_store.proofs.Learnt.{learn_means}
use Rattle.journal_store.specs.Calls.{Writes}
use Rattle.journal_store.specs.Kept.{Kept, IsFaithful, kept_entries}
use Rattle.journal_store.proofs.Reading.{writes, writes_open, writes_sound}
use Rattle.journal_store.proofs.journal.SqlJournalJournal.put_learnt.Goals as goal

pub invariant_of-self-2 : goal.invariant_of-self-2
invariant_of-self-2 g c =
    let old : Kept g.row.S.Denot = record { conn = c.self.inside.conn; is_usable = c.self.inside.is_usable; faults = c.self.inside.faults; writes = c.self.inside.writes } in
    let new : Kept g.row.S.Denot = record { conn = c.learn-made.new.conn; is_usable = c.self.inside.is_usable; faults = c.concluded.new.faults; writes = c.concluded.new.writes } in
    let was_usable : IsTrue c.self.inside.is_usable = search (rules, tests) in
    let can = subst (λ (k : Kept g.row.S.Denot). IsFaithful g.S.Store k → CanPutLearnt (kept_entries g.S.Store k) c.args.name.now c.args.confirmed) (sym c.self.view_is) c.requires.lawful in
    writes_sound g.S.Store old new (with_learnt (kept_entries g.S.Store old) c.args.name.now c.args.confirmed c.args.id.now) (Learns c.args.name.now c.args.confirmed c.args.id.now) c.self.invariant was_usable refl (learn_means g.S.Store old c.args.name.now c.args.confirmed c.args.id.now can) c.learn-made.ensures.changes.stop c.learn-made.result c.learn-made.ensures.changes.made c.learn-made.ensures.changes.keeps

pub returns-clause-puts : goal.returns-clause-puts
returns-clause-puts g c =
    let old : Kept g.row.S.Denot = record { conn = c.self.inside.conn; is_usable = c.self.inside.is_usable; faults = c.self.inside.faults; writes = c.self.inside.writes } in
    let new : Kept g.row.S.Denot = record { conn = c.learn-made.new.conn; is_usable = c.self.inside.is_usable; faults = c.concluded.new.faults; writes = c.concluded.new.writes } in
    let was_usable : IsTrue c.self.inside.is_usable = search (rules, tests) in
    let can = subst (λ (k : Kept g.row.S.Denot). IsFaithful g.S.Store k → CanPutLearnt (kept_entries g.S.Store k) c.args.name.now c.args.confirmed) (sym c.self.view_is) c.requires.lawful in
    subst (λ (k : Kept g.row.S.Denot). Writes g.S.Store k new (with_learnt (kept_entries g.S.Store k) c.args.name.now c.args.confirmed c.args.id.now) c.concluded.result) c.self.view_is
    (writes g.S.Store old new (with_learnt (kept_entries g.S.Store old) c.args.name.now c.args.confirmed c.args.id.now) (Learns c.args.name.now c.args.confirmed c.args.id.now) c.self.invariant was_usable refl (learn_means g.S.Store old c.args.name.now c.args.confirmed c.args.id.now can) c.learn-made.ensures.changes.stop c.concluded.result c.concluded.ensures.faults c.concluded.ensures.written c.concluded.ensures.unwritten c.learn-made.result c.learn-made.ensures.changes.made c.learn-made.ensures.changes.keeps (c.concluded.ensures.is ∙ c.call_result.ensures))

pub returns-clause-open : goal.returns-clause-open
returns-clause-open g c =
    let old : Kept g.row.S.Denot = record { conn = c.self.inside.conn; is_usable = c.self.inside.is_usable; faults = c.self.inside.faults; writes = c.self.inside.writes } in
    let new : Kept g.row.S.Denot = record { conn = c.learn-made.new.conn; is_usable = c.self.inside.is_usable; faults = c.concluded.new.faults; writes = c.concluded.new.writes } in
    let was_usable : IsTrue c.self.inside.is_usable = search (rules, tests) in
    let can = subst (λ (k : Kept g.row.S.Denot). IsFaithful g.S.Store k → CanPutLearnt (kept_entries g.S.Store k) c.args.name.now c.args.confirmed) (sym c.self.view_is) c.requires.lawful in
    writes_open g.S.Store old new (with_learnt (kept_entries g.S.Store old) c.args.name.now c.args.confirmed c.args.id.now) (Learns c.args.name.now c.args.confirmed c.args.id.now) c.self.invariant was_usable refl (learn_means g.S.Store old c.args.name.now c.args.confirmed c.args.id.now can) c.learn-made.ensures.changes.stop c.learn-made.result c.learn-made.ensures.changes.made c.concluded.result (c.concluded.ensures.is ∙ c.call_result.ensures)
