use Rattle.std.proofs.Common.{◌≡◌, ◌<◌, [], ◌∷◌, pos, map, subst, sym}
use Rattle.sqlite_value.specs.Order.{Row, column}
use Rattle.sqlite_value.specs.declared.value.Value.TheVariants.{Int}
use Rattle.sqlite.specs.Effect.{Database}
use Rattle.sqlite.specs.Held.{state}
use Rattle.sql_tables.specs.Layouts.{IsFormat, IsMark, format_tree}
use Rattle.sql_tables.specs.declared.marks.Mark.TheVariants.{Newer}
use Rattle.sql_tables.proofs.Looking.{same_now}
use Rattle.journal_store.proofs.opening.check_format.Goals as goal

pub number_fault-requires-clause-above : goal.number_fault-requires-clause-above
number_fault-requires-clause-above g c clean still =
    let old = state g.S.Store c.args.conn.now in
    let above : IsMark (IsFormat old) c.number.result Newer = subst (IsMark (IsFormat old) c.number.result) c.in-Ok-Newer.field-0-is (c.in-Ok-Newer.ensures.mark clean) in
    let same = same_now old (state g.S.Store c.mark_of.new.conn) c.mark_of.ensures.checks.looks c.requires.laid clean still in (
      above.0,
      subst (λ own. own < above.0) c.number.ensures.number above.1,
      subst (λ (d : Database). map (λ (r : Row). column r 2) (d.trees format_tree) ≡ Int (pos above.0) ∷ []) (sym same) above.2,
    )
