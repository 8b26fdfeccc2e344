use Rattle.std.proofs.Common.{◌≡◌, rules, subst, sym}
use Rattle.std.specs.Vec.Iter.{into_iter_items}
use Rattle.journal_core.specs.Entries.{CanPutRows, with_rows}
use Rattle.journal_core.specs.Memory.{AreLawful, entries_in}
use Rattle.journal_core.proofs.Kept.{clone-same, copied}
use Rattle.journal_core.proofs.memory.copy_with.Goals as goal

pub loop-row-init : goal.loop-row-init
loop-row-init c =
    let same : into_iter_items c.into_iter-row-iterator.result ≡ c.args.rows.items = search rules in
    subst (λ rows. AreLawful c.in_ok-copy.copy × CanPutRows (entries_in c.in_ok-copy.copy) rows × (with_rows (entries_in c.in_ok-copy.copy) rows ≡ with_rows (entries_in c.args.entries.now) c.args.rows.items)) (sym same)
    (copied c.args.entries.now c.in_ok-copy.copy c.args.rows.items c.requires.lawful c.requires.can (clone-same c.args.entries.now.entries c.in_ok-copy.copy.entries c.in_ok-copy.ensures.cases))
