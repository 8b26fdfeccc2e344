use Rattle.std.proofs.Common.{◌⊎◌, ◌∙◌, IsTrue, refl, subst, sym, arith, rules, tests}
use Rattle.sqlite.specs.Effect.{Database}
use Rattle.sqlite.specs.Held.{state}
use Rattle.sqlite.specs.State.{HasCleanDisk}
use Rattle.journal_store.specs.Connections.{ListsNone}
use Rattle.sql_tables.specs.Faults.{FailsFor as CallFailsFor, HasFailed}
use Rattle.journal_store.specs.Kept.{IsFaithful, Kept}
use Rattle.sql_tables.proofs.Keeping.{kept_now}
use Rattle.journal_store.proofs.Failing.{call_fails}
use Rattle.journal_store.proofs.Reading.{sound_still}
use Rattle.journal_store.proofs.Refusing.{cause_by}
use Rattle.journal_store.proofs.journal.SqlJournal.list.Goals as goal

pub returns-in-Err-clause-failed : goal.returns-in-Err-clause-failed
returns-in-Err-clause-failed g c usable clean =
    let old : Kept g.row.S.Denot = record { conn = c.self.inside.conn; is_usable = c.self.inside.is_usable; faults = c.self.inside.faults; writes = c.self.inside.writes } in
    let new : Kept g.row.S.Denot = record { conn = c.list_entries.new.conn; is_usable = c.self.inside.is_usable; faults = c.counted.new.faults; writes = c.self.inside.writes } in
    let before = state g.S.Store old.conn in
    let after = state g.S.Store new.conn in
    let err = c.in-Err.ensures in
    let was_usable : IsTrue c.self.inside.is_usable = search (rules, tests) in
    let damage = IsFaithful g.S.Store new × ListsNone c.args.kind after.now.trees in
    let found : IsTrue after.is_open × ListsNone c.args.kind before.now.trees → damage = λ it.
    let early : HasCleanDisk before = omega (arith, clean, err.checks.looks.quiet.clean) in
    let laid = (c.self.invariant early ((err.checks.looks.keeps clean).was_open it.0) was_usable).laid in (
      record { clean = clean; is_open = it.0; usable = was_usable; whole = sound_still g.S.Store old new refl err.checks.looks.quiet err.checks.looks.keeps c.self.invariant clean it.0 was_usable },
      subst (λ (d : Database). ListsNone c.args.kind d.trees) (sym (kept_now before after (err.checks.looks.keeps clean) it.0 laid).0) it.1,
    ) in
    subst (λ (k : Kept g.row.S.Denot). CallFailsFor (HasFailed (state g.S.Store k.conn) after ⊎ damage) c.counted.result) c.self.view_is
    (subst (CallFailsFor (HasFailed before after ⊎ damage)) (sym (c.counted.ensures.same ∙ c.fault_of.ensures))
    (call_fails (HasFailed before after) damage c.in-Err.fault (err.checks.failed clean) (cause_by (IsTrue after.is_open × ListsNone c.args.kind before.now.trees) damage found c.in-Err.fault (err.none clean))))
