use Rattle.std.proofs.Common.{◌≡◌, ◌-◌, true}
use Rattle.provider_core.proofs.Paging.{IsFinding}
use Rattle.provider_core.proofs.listing.find_places.Given as goal

-- the places of the rows before `after` were found
abbrev pub invariant-loop-after : goal.invariant-loop-after
invariant-loop-after g l =
    IsFinding g.R.Registry l.all l.after l.fn.registry l.registry l.places
    × g.M.Meanwhile.keeps l.fn.meanwhile l.meanwhile
    × (g.M.Meanwhile.stops l.meanwhile ≡ true → g.M.Meanwhile.stops l.fn.meanwhile ≡ true)

abbrev pub decreases-loop-after : goal.decreases-loop-after
decreases-loop-after g l = l.all - l.after
