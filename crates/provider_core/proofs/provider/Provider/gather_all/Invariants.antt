use Rattle.std.proofs.Common.{◌≡◌, ◌-◌, true}
use Rattle.provider_core.proofs.Gathering.{IsGathering}
use Rattle.provider_core.proofs.provider.Provider.gather_all.Given as goal

-- the rows before `after` have been looked through
abbrev pub invariant-loop-after : goal.invariant-loop-after
invariant-loop-after g l =
    IsGathering g.R.Registry l.kind l.filter l.all l.after l.initial.self l.self l.fn.gathered l.gathered
    × g.M.Meanwhile.keeps l.fn.meanwhile l.meanwhile
    × (g.M.Meanwhile.stops l.meanwhile ≡ true → g.M.Meanwhile.stops l.fn.meanwhile ≡ true)

abbrev pub decreases-loop-after : goal.decreases-loop-after
decreases-loop-after g l = l.all - l.after
