use Rattle.std.proofs.Common.{◌≡◌, true, [], pos, OnOk, IsTrue, ap, ◌∙◌, subst, arith, rules}
use Rattle.sqlite_trees.specs.Tree.{Trees}
use Rattle.sqlite.specs.Held.{state}
use Rattle.sqlite.specs.State.{HasCleanDisk, Survives}
use Rattle.sqlite.proofs.StateLemmas.{survives_then}
use Rattle.sqlite.proofs.Callers.{survives_begin}
use Rattle.provider_store.specs.Format.{format_number}
use Rattle.provider_store.specs.Opening.{IsStore, LeavesNone}
use Rattle.provider_store.proofs.Made.{AreMade, tables_made, tables_kept}
use Rattle.sql_tables.specs.Layouts.{IsBlank}
use Rattle.sql_tables.proofs.Results.{on_ok}
use Rattle.provider_store.proofs.opening.make_tables.Goals as goal

pub returns-clause-made : goal.returns-clause-made
returns-clause-made g c clean =
    let old = c.args.conn.now in
    let last = c.execute-3.new.self.conn.now in
    let end = c.commit.new.self.0 in
    let same : end ≡ c.conn-2-1.given.0 = search rules in
    let late : HasCleanDisk (state g.S.Store end) = search rules in
    let begun = c.transaction-tables.ensures.begun in
    let at_last : HasCleanDisk (state g.S.Store last) = omega (arith, late, c.commit.ensures.survives.clean) in
    let at_two : HasCleanDisk (state g.S.Store c.execute-2.new.self.conn.now) = omega (arith, at_last, c.execute-3.ensures.survives.clean) in
    let at_one : HasCleanDisk (state g.S.Store c.execute.new.self.conn.now) = omega (arith, at_two, c.execute-2.ensures.survives.clean) in
    let at_begun : HasCleanDisk (state g.S.Store c.transaction-tables.result.conn.now) = omega (arith, at_one, c.execute.ensures.survives.clean) in
    let first : HasCleanDisk (state g.S.Store old) = rw begun at at_begun in
    let one = c.in_ok-execute.ensures.runs at_one (rw begun) in
    let two = c.in_ok-execute-2.ensures.runs at_two one.1.mode in
    let three = c.in_ok-execute-3.ensures.runs at_last two.1.mode in
    let was_open : IsTrue (state g.S.Store old).is_open = rw begun at one.1.was_open in
    let blank = c.requires.blank first was_open in
    let made : AreMade (state g.S.Store last).now (pos format_number) =
    tables_made (state g.S.Store (record old { in_transaction = true })) (state g.S.Store c.execute.new.self.conn.now) (state g.S.Store c.execute-2.new.self.conn.now) (state g.S.Store last) c.in_ok-execute.field-0 c.in_ok-execute-2.field-0 c.in_ok-execute-3.field-0 (pos format_number)
    blank.schema (rw begun at one.0) two.0 three.0 in
    subst (λ h. OnOk c.commit.result (IsTrue (state g.S.Store h).is_open × IsBlank (state g.S.Store old) × IsStore (state g.S.Store h) [])) same
    (on_ok c.commit.result (λ ok. tables_kept (state g.S.Store old) (state g.S.Store last) (state g.S.Store end) blank made ok.1) (c.commit.ensures.ok late))

pub returns-clause-stop : goal.returns-clause-stop
returns-clause-stop g c =
    let old = c.args.conn.now in
    let last = c.execute-3.new.self.conn.now in
    let end = c.commit.new.self.0 in
    let same : end ≡ c.conn-2-1.given.0 = search rules in
    let begun = c.transaction-tables.ensures.begun in
    let none = λ (late : HasCleanDisk (state g.S.Store end)).
    let at_last : HasCleanDisk (state g.S.Store last) = omega (arith, late, c.commit.ensures.survives.clean) in
    let at_two : HasCleanDisk (state g.S.Store c.execute-2.new.self.conn.now) = omega (arith, at_last, c.execute-3.ensures.survives.clean) in
    let at_one : HasCleanDisk (state g.S.Store c.execute.new.self.conn.now) = omega (arith, at_two, c.execute-2.ensures.survives.clean) in
    let at_begun : HasCleanDisk (state g.S.Store c.transaction-tables.result.conn.now) = omega (arith, at_one, c.execute.ensures.survives.clean) in
    let first : HasCleanDisk (state g.S.Store old) = rw begun at at_begun in
    let one = c.in_ok-execute.ensures.runs at_one (rw begun) in
    let two = c.in_ok-execute-2.ensures.runs at_two one.1.mode in
    let three = c.in_ok-execute-3.ensures.runs at_last two.1.mode in
    let was_open : IsTrue (state g.S.Store old).is_open = rw begun at one.1.was_open in
    let blank = c.requires.blank first was_open in
    let made : AreMade (state g.S.Store last).now (pos format_number) =
    tables_made (state g.S.Store (record old { in_transaction = true })) (state g.S.Store c.execute.new.self.conn.now) (state g.S.Store c.execute-2.new.self.conn.now) (state g.S.Store last) c.in_ok-execute.field-0 c.in_ok-execute-2.field-0 c.in_ok-execute-3.field-0 (pos format_number)
    blank.schema (rw begun at one.0) two.0 three.0 in
    made.none in
    let early = survives_then (state g.S.Store c.transaction-tables.result.conn.now) (state g.S.Store c.execute.new.self.conn.now) (state g.S.Store c.execute-2.new.self.conn.now) _ _ (λ _. ⊥) (λ _ db it. it) (λ _ db it. it) c.execute.ensures.survives c.execute-2.ensures.survives in
    let inside = survives_then (state g.S.Store c.transaction-tables.result.conn.now) (state g.S.Store c.execute-2.new.self.conn.now) (state g.S.Store last) _ _ (λ _. ⊥) (λ _ db it. it) (λ _ db it. it) early c.execute-3.ensures.survives in
    let whole = survives_then (state g.S.Store old) (state g.S.Store last) (state g.S.Store end) _ _ LeavesNone (λ _ db it. absurd it)
    (λ late db is. ap (λ (t : Trees). t 1) is ∙ none late) (survives_begin g.S.Store old (state g.S.Store last) _ (rw begun at inside)) c.commit.ensures.survives in
    subst (λ h. Survives (state g.S.Store old) (state g.S.Store h) LeavesNone) same whole
