use Rattle.std.proofs.Common.{◌≡◌, OnOk, IsTrue, subst, arith, rules}
use Rattle.sqlite.specs.Held.{state}
use Rattle.sqlite.specs.State.{HasCleanDisk, Survives}
use Rattle.sqlite.proofs.StateLemmas.{survives_then}
use Rattle.sqlite.proofs.Callers.{survives_begin}
use Rattle.journal_core.specs.Entries.{EntryMap}
use Rattle.sql_tables.proofs.Results.{on_ok}
use Rattle.journal_store.specs.Batches.{settled}
use Rattle.journal_store.specs.Opening.{AreEmptied, IsStore, IsStoreBy, LeavesCarriedBy}
use Rattle.journal_store.proofs.OlderFormats.Ending.{begun_store, emptied_kept, stop_leaves, store_kept}
use Rattle.journal_store.proofs.Generic.{format_of}
use Rattle.journal_store.proofs.older.carrying.carry.Goals as goal

pub carry_over-requires-clause-older : goal.carry_over-requires-clause-older
carry_over-requires-clause-older g c clean opened =
    let old = c.args.conn.now in
    let Before = IsStoreBy (format_of g.F.Layout g.F.Format) in
    let begun = c.transaction-journal.ensures.begun in
    let first : HasCleanDisk (state g.S.Store old) = rw begun at clean in
    let was_open : IsTrue (state g.S.Store old).is_open = rw begun at opened in
    let it = c.requires.older first was_open in
    (it.0, rw begun (begun_store (state g.S.Store old) it.0 it.1))

pub returns-clause-made : goal.returns-clause-made
returns-clause-made g c clean =
    let old = c.args.conn.now in
    let Before = IsStoreBy (format_of g.F.Layout g.F.Format) in
    let last = c.carry_over.new.tables.conn.now in
    let end = c.commit.new.self.0 in
    let same : end ≡ c.conn-2-1.given.0 = search rules in
    let begun = c.transaction-journal.ensures.begun in
    let late : HasCleanDisk (state g.S.Store end) = search rules in
    let at_last : HasCleanDisk (state g.S.Store last) = omega (arith, late, c.commit.ensures.survives.clean) in
    let before : (held : EntryMap) → Before (state g.S.Store old) held → Before (settled (state g.S.Store c.transaction-journal.result.conn.now)) held =
    rw begun (λ held it. begun_store (state g.S.Store old) held it) in
    let carried = c.in_ok-carry_over.ensures.carried at_last in
    let f = format_of g.F.Layout g.F.Format in
    let none = c.in_ok-carry_over.ensures.emptied at_last in
    subst (λ h. OnOk c.commit.result (IsTrue (state g.S.Store h).is_open × ((held : EntryMap) → Before (state g.S.Store old) held → IsStore (state g.S.Store h) held) × AreEmptied f (state g.S.Store h).now.trees)) same
    (on_ok c.commit.result (λ ok. (ok.1.is_open, λ held it. store_kept (state g.S.Store last) (state g.S.Store end) held (carried held (before held it)) ok.1, emptied_kept f (state g.S.Store last) (state g.S.Store end) none ok.1)) (c.commit.ensures.ok late))

pub returns-clause-stop : goal.returns-clause-stop
returns-clause-stop g c =
    let old = c.args.conn.now in
    let Before = IsStoreBy (format_of g.F.Layout g.F.Format) in
    let last = c.carry_over.new.tables.conn.now in
    let end = c.commit.new.self.0 in
    let same : end ≡ c.conn-2-1.given.0 = search rules in
    let begun = c.transaction-journal.ensures.begun in
    let inside = c.in_ok-carry_over.ensures.goes_on.quiet in
    let before : (held : EntryMap) → Before (state g.S.Store old) held → Before (settled (state g.S.Store c.transaction-journal.result.conn.now)) held =
    rw begun (λ held it. begun_store (state g.S.Store old) held it) in
    let leaves = LeavesCarriedBy (format_of g.F.Layout g.F.Format) (state g.S.Store old) in
    let whole = survives_then (state g.S.Store old) (state g.S.Store last) (state g.S.Store end) _ _ leaves (λ _ db it. absurd it)
    (λ late db is.
    let at_last : HasCleanDisk (state g.S.Store last) = omega (arith, late, c.commit.ensures.survives.clean) in
    let at_begun : HasCleanDisk (state g.S.Store c.transaction-journal.result.conn.now) = omega (arith, at_last, c.carry_over.ensures.goes_on.quiet.clean) in
    let first : HasCleanDisk (state g.S.Store old) = rw begun at at_begun in
    let was_open : IsTrue (state g.S.Store old).is_open = rw begun at ((c.in_ok-carry_over.ensures.goes_on.left at_last).was_open (c.in_ok-carry_over.ensures.goes_on.is_open at_last)) in
    let held = c.requires.older first was_open in
    let kept = c.in_ok-carry_over.ensures.carried at_last held.0 (before held.0 held.1) in
    stop_leaves (format_of g.F.Layout g.F.Format) (state g.S.Store old) (state g.S.Store last) held.0 db held.1 kept (c.in_ok-carry_over.ensures.emptied at_last) is)
    (survives_begin g.S.Store old (state g.S.Store last) _ (rw begun at inside)) c.commit.ensures.survives in
    subst (λ h. Survives (state g.S.Store old) (state g.S.Store h) leaves) same whole
