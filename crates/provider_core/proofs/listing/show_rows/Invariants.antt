use Rattle.std.proofs.Common.{◌-◌, length}
use Rattle.provider_core.proofs.Paging.{IsShowing}
use Rattle.provider_core.proofs.listing.show_rows.Given as goal

-- the rows at the first `done` places are on the page
abbrev pub invariant-loop-done : goal.invariant-loop-done
invariant-loop-done g l = IsShowing g.R.Registry l.places l.done l.fn.registry l.registry l.fn.page.items l.page.items

abbrev pub decreases-loop-done : goal.decreases-loop-done
decreases-loop-done g l = length l.places - l.done
