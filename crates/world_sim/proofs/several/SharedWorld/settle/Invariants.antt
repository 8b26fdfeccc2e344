use Rattle.world_sim.specs.Several.{SettlesEach}
use Rattle.world_sim.proofs.several.SharedWorld.settle.Given as goal

-- the records of the sides before this place were settled
abbrev pub invariant-loop-place : goal.invariant-loop-place
invariant-loop-place g l = SettlesEach g.R.Registry g.J.Journal l.initial.self l.self l.place l.exchanges
