use Rattle.std.proofs.Common.{◌≡◌, ◌∙◌, Some, ap, not, rules, sym}
use Rattle.sqlite.specs.Held.{state}
use Rattle.journal_store.proofs.Scoping.{absent_or, there_none, there_or}
use Rattle.journal_store.proofs.scopes.absent_in.Goals as goal

pub loop-name-init : goal.loop-name-init
loop-name-init g c =
    let it = c.in_ok-check_open.ensures in (
      there_none c.args.names.now (state g.S.Store c.args.tables.now.conn.now) (state g.S.Store c.check_open.new.tables.conn.now) c.requires.under_way it.same it.left it.quiet,
      it.same_reference,
    )

pub loop-name-preserved : goal.loop-name-preserved
loop-name-preserved g c =
    let it = c.in_ok-held.ensures in (
      there_or c.args.names.now c.loop-name.name-index c.name-item.result (state g.S.Store c.args.tables.now.conn.now) (state g.S.Store c.loop-name.tables.conn.now) (state g.S.Store c.find_in.new.tables.conn.now)
          c.loop-name-test.true c.name-item.is c.loop-name.invariant.0 it.left it.quiet it.same c.in_ok-held.held (ap not (c.is_none.ensures ∙ ap not c.if-is_none.false)) it.found,
      it.same_reference ∙ c.loop-name.invariant.1,
    )

pub returns-then-is_none-clause-absent : goal.returns-then-is_none-clause-absent
returns-then-is_none-clause-absent g c clean =
    let it = c.in_ok-held.ensures in
    let copied : c.in_ok-clone.field-0 ≡ c.name-item.result = search rules in
    let found = absent_or c.args.names.now c.loop-name.name-index c.name-item.result (state g.S.Store c.args.tables.now.conn.now) (state g.S.Store c.loop-name.tables.conn.now) (state g.S.Store c.find_in.new.tables.conn.now)
    c.loop-name-test.true c.name-item.is c.loop-name.invariant.0 it.left it.quiet it.same c.in_ok-held.held (ap not (c.is_none.ensures ∙ ap not c.if-is_none.true)) it.found clean in
    ap Some copied ∙ sym found
