use Rattle.std.proofs.Common.{◌-◌}
use Rattle.storage.proofs.StoreShowingLemmas.{IsShowing}
use Rattle.storage.proofs.store_showing.write_pages.Given as goal

-- the rows before `after` are shown
abbrev pub invariant-loop-after : goal.invariant-loop-after
invariant-loop-after g l = IsShowing g.R.Registry (g.W.Write.contents l.initial.out) (g.W.Write.contents l.out) l.all l.after l.initial.rows l.rows

abbrev pub decreases-loop-after : goal.decreases-loop-after
decreases-loop-after g l = l.all - l.after
