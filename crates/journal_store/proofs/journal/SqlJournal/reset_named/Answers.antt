use Rattle.std.proofs.Common.{IsTrue, refl, sym, ◌∙◌, subst, rules, tests}
use Rattle.journal_store.specs.Scopes.{ResetsThese, reset_of}
use Rattle.journal_store.proofs.Scoping.{Answers, these_answer, these_mean}
use Rattle.journal_store.specs.Calls.{Writes}
use Rattle.journal_store.specs.Kept.{Kept, kept_entries}
use Rattle.journal_store.proofs.Reading.{writes, writes_open, writes_sound}
use Rattle.journal_store.proofs.journal.SqlJournal.reset_named.Goals as goal

pub invariant_of-self-2 : goal.invariant_of-self-2
invariant_of-self-2 g c =
    let old : Kept g.row.S.Denot = record { conn = c.self.inside.conn; is_usable = c.self.inside.is_usable; faults = c.self.inside.faults; writes = c.self.inside.writes } in
    let new : Kept g.row.S.Denot = record { conn = c.reset_these-made.new.conn; is_usable = c.self.inside.is_usable; faults = c.reset_concluded.new.faults; writes = c.reset_concluded.new.writes } in
    let was_usable : IsTrue c.self.inside.is_usable = search (rules, tests) in
    writes_sound g.S.Store old new (reset_of (kept_entries g.S.Store old) c.args.names.now) (ResetsThese c.args.names.now) c.self.invariant was_usable refl (these_mean g.S.Store old c.args.names.now) c.reset_these-made.ensures.changes.stop c.reset_these-made.result c.reset_these-made.ensures.changes.made c.reset_these-made.ensures.changes.keeps

pub returns-clause-puts : goal.returns-clause-puts
returns-clause-puts g c =
    let old : Kept g.row.S.Denot = record { conn = c.self.inside.conn; is_usable = c.self.inside.is_usable; faults = c.self.inside.faults; writes = c.self.inside.writes } in
    let new : Kept g.row.S.Denot = record { conn = c.reset_these-made.new.conn; is_usable = c.self.inside.is_usable; faults = c.reset_concluded.new.faults; writes = c.reset_concluded.new.writes } in
    let was_usable : IsTrue c.self.inside.is_usable = search (rules, tests) in
    subst (λ (k : Kept g.row.S.Denot). Writes g.S.Store k new (reset_of (kept_entries g.S.Store k) c.args.names.now) c.reset_concluded.result) c.self.view_is
    (writes g.S.Store old new (reset_of (kept_entries g.S.Store old) c.args.names.now) (ResetsThese c.args.names.now) c.self.invariant was_usable refl (these_mean g.S.Store old c.args.names.now) c.reset_these-made.ensures.changes.stop c.reset_concluded.result c.reset_concluded.ensures.faults c.reset_concluded.ensures.written c.reset_concluded.ensures.unwritten c.reset_these-made.result c.reset_these-made.ensures.changes.made c.reset_these-made.ensures.changes.keeps c.reset_concluded.ensures.is)

pub returns-clause-answer : goal.returns-clause-answer
returns-clause-answer g c =
    let old : Kept g.row.S.Denot = record { conn = c.self.inside.conn; is_usable = c.self.inside.is_usable; faults = c.self.inside.faults; writes = c.self.inside.writes } in
    let new : Kept g.row.S.Denot = record { conn = c.reset_these-made.new.conn; is_usable = c.self.inside.is_usable; faults = c.reset_concluded.new.faults; writes = c.reset_concluded.new.writes } in
    let was_usable : IsTrue c.self.inside.is_usable = search (rules, tests) in
    let wrote = writes g.S.Store old new (reset_of (kept_entries g.S.Store old) c.args.names.now) (ResetsThese c.args.names.now) c.self.invariant was_usable refl (these_mean g.S.Store old c.args.names.now) c.reset_these-made.ensures.changes.stop c.reset_concluded.result c.reset_concluded.ensures.faults c.reset_concluded.ensures.written c.reset_concluded.ensures.unwritten c.reset_these-made.result c.reset_these-made.ensures.changes.made c.reset_these-made.ensures.changes.keeps c.reset_concluded.ensures.is in
    subst (λ (k : Kept g.row.S.Denot). Answers g.S.Store k new c.args.names.now c.reset_concluded.result) c.self.view_is
    (these_answer g.S.Store old c.args.names.now new c.reset_these-made.result c.reset_concluded.result c.reset_concluded.ensures.is wrote.was c.reset_these-made.ensures.answer)

pub returns-clause-open : goal.returns-clause-open
returns-clause-open g c =
    let old : Kept g.row.S.Denot = record { conn = c.self.inside.conn; is_usable = c.self.inside.is_usable; faults = c.self.inside.faults; writes = c.self.inside.writes } in
    let new : Kept g.row.S.Denot = record { conn = c.reset_these-made.new.conn; is_usable = c.self.inside.is_usable; faults = c.reset_concluded.new.faults; writes = c.reset_concluded.new.writes } in
    let was_usable : IsTrue c.self.inside.is_usable = search (rules, tests) in
    writes_open g.S.Store old new (reset_of (kept_entries g.S.Store old) c.args.names.now) (ResetsThese c.args.names.now) c.self.invariant was_usable refl (these_mean g.S.Store old c.args.names.now) c.reset_these-made.ensures.changes.stop c.reset_these-made.result c.reset_these-made.ensures.changes.made c.reset_concluded.result c.reset_concluded.ensures.is
