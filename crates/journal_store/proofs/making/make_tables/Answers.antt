use Rattle.std.proofs.Common.{◌≡◌, OnOk, IsTrue, ap, ◌∙◌, subst, arith, rules}
use Rattle.std.specs.FinMap.{empty}
use Rattle.sqlite_trees.specs.Tree.{Trees}
use Rattle.sqlite.specs.Held.{state}
use Rattle.sqlite.specs.State.{HasCleanDisk, Survives}
use Rattle.sqlite.proofs.StateLemmas.{survives_then}
use Rattle.sqlite.proofs.Callers.{survives_begin}
use Rattle.sql_tables.specs.Layouts.{IsBlank}
use Rattle.sql_tables.proofs.Results.{on_ok}
use Rattle.journal_store.specs.Opening.{IsStore, LeavesNone}
use Rattle.journal_store.specs.Rows.{entries_in}
use Rattle.journal_store.proofs.OlderFormats.Ending.{store_kept}
use Rattle.journal_store.proofs.making.make_tables.Goals as goal

pub carry_over-requires-clause-older : goal.carry_over-requires-clause-older
carry_over-requires-clause-older g c clean opened = (empty, c.in_ok-make_first.ensures.made clean)

pub returns-clause-made : goal.returns-clause-made
returns-clause-made g c clean =
    let old = c.args.conn.now in
    let middle = c.make_first.new.tables.conn.now in
    let last = c.carry_over.new.tables.conn.now in
    let end = c.commit.new.self.0 in
    let same : end ≡ c.conn-2-1.given.0 = search rules in
    let begun = c.transaction-tables.ensures.begun in
    let late : HasCleanDisk (state g.S.Store end) = search rules in
    let at_last : HasCleanDisk (state g.S.Store last) = omega (arith, late, c.commit.ensures.survives.clean) in
    let at_middle : HasCleanDisk (state g.S.Store middle) = omega (arith, at_last, c.carry_over.ensures.goes_on.quiet.clean) in
    let at_begun : HasCleanDisk (state g.S.Store c.transaction-tables.result.conn.now) = omega (arith, at_middle, c.make_first.ensures.goes_on.quiet.clean) in
    let first : HasCleanDisk (state g.S.Store old) = rw begun at at_begun in
    let was_open : IsTrue (state g.S.Store old).is_open = rw begun at ((c.in_ok-make_first.ensures.goes_on.left at_middle).was_open (c.in_ok-make_first.ensures.goes_on.is_open at_middle)) in
    let blank = c.requires.blank first was_open in
    let kept = c.in_ok-carry_over.ensures.carried at_last empty (c.in_ok-make_first.ensures.made at_middle) in
    subst (λ h. OnOk c.commit.result (IsTrue (state g.S.Store h).is_open × IsBlank (state g.S.Store old) × IsStore (state g.S.Store h) empty)) same
    (on_ok c.commit.result (λ ok. (ok.1.is_open, blank, store_kept (state g.S.Store last) (state g.S.Store end) empty kept ok.1)) (c.commit.ensures.ok late))

pub returns-clause-stop : goal.returns-clause-stop
returns-clause-stop g c =
    let old = c.args.conn.now in
    let middle = c.make_first.new.tables.conn.now in
    let last = c.carry_over.new.tables.conn.now in
    let end = c.commit.new.self.0 in
    let same : end ≡ c.conn-2-1.given.0 = search rules in
    let begun = c.transaction-tables.ensures.begun in
    let inside = survives_then (state g.S.Store c.transaction-tables.result.conn.now) (state g.S.Store middle) (state g.S.Store last) _ _ (λ _. ⊥) (λ _ db it. it) (λ _ db it. it) c.in_ok-make_first.ensures.goes_on.quiet c.in_ok-carry_over.ensures.goes_on.quiet in
    let whole = survives_then (state g.S.Store old) (state g.S.Store last) (state g.S.Store end) _ _ LeavesNone (λ _ db it. absurd it)
    (λ late db is.
    let at_last : HasCleanDisk (state g.S.Store last) = omega (arith, late, c.commit.ensures.survives.clean) in
    let at_middle : HasCleanDisk (state g.S.Store middle) = omega (arith, at_last, c.carry_over.ensures.goes_on.quiet.clean) in
    let kept = c.in_ok-carry_over.ensures.carried at_last empty (c.in_ok-make_first.ensures.made at_middle) in
    ap (λ (t : Trees). entries_in t) is ∙ kept.are)
    (survives_begin g.S.Store old (state g.S.Store last) _ (rw begun at inside)) c.commit.ensures.survives in
    subst (λ h. Survives (state g.S.Store old) (state g.S.Store h) LeavesNone) same whole
