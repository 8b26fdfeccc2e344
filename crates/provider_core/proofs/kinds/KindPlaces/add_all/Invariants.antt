use Rattle.std.proofs.Common.{take}
use Rattle.provider_core.specs.Listing.{AddsRows}
use Rattle.provider_core.proofs.kinds.KindPlaces.add_all.Given as goal

-- the places of the rows so far were added
abbrev pub invariant-loop-row : goal.invariant-loop-row
invariant-loop-row l = AddsRows (take l.row-index l.rows) l.fn.self l.self
