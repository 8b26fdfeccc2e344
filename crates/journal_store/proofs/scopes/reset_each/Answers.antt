use Rattle.std.proofs.Common.{◌≡◌, ◌∙◌, ◌+◌, Bool, ap, ℕ, subst, sym}
use Rattle.sqlite.specs.Held.{state}
use Rattle.journal_store.proofs.Scoping.{ResetSoFar, counted, reset_next}
use Rattle.journal_store.proofs.scopes.reset_each.Goals.{else-changes, then-changes}
use Rattle.journal_store.proofs.scopes.reset_each.Goals as goal

pub loop-name-preserved : goal.loop-name-preserved
loop-name-preserved g c =
    let old = state g.S.Store c.args.tables.now.conn.now in
    let mid = state g.S.Store c.loop-name.tables.conn.now in
    let new = state g.S.Store c.reset_record_in.new.tables.conn.now in
    let it = c.in_ok-changes.ensures in
    let next = reset_next c.args.names.now c.loop-name.name-index c.loop-name.count c.name-item.result c.in_ok-changes.changes old mid new
    c.loop-name-test.true c.name-item.is c.loop-name.invariant.0 it.under_way it.goes_on.left it.goes_on.quiet it.goes_on.is_open it.reset in
    let count_is : counted c.in_ok-changes.changes c.loop-name.count ≡ c.if-changes.count = elim c.if-changes.branch [
      | then-changes w ↦ ap (λ (b : Bool). counted b c.loop-name.count) w.if-changes.true ∙ sym w.count-is
      | else-changes w ↦ ap (λ (b : Bool). counted b c.loop-name.count) w.if-changes.false ∙ sym w.count-is
    ] in
    (subst (λ (n : ℕ). ResetSoFar c.args.names.now (c.loop-name.name-index + 1) n old new) count_is next, it.same_reference ∙ c.loop-name.invariant.1)
