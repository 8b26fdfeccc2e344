use Rattle.std.proofs.Common.{◌≡◌, take, true}
use Rattle.provider_core.specs.Gathering.{GoesThrough}
use Rattle.provider_core.proofs.searching.Gathered.look_through.Given as goal

-- the rows so far have been looked through
abbrev pub invariant-loop-row : goal.invariant-loop-row
invariant-loop-row g l =
    GoesThrough l.kind l.filter (take l.row-index l.rows) l.fn.self l.self
    × g.M.Meanwhile.keeps l.fn.meanwhile l.meanwhile
    × (g.M.Meanwhile.stops l.meanwhile ≡ true → g.M.Meanwhile.stops l.fn.meanwhile ≡ true)
