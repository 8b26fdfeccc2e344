use Rattle.world_sim.proofs.SettlingLemmas.{AreSoFar}
use Rattle.world_sim.proofs.settling.settle.Given as goal

-- the records before this one were settled by the exchanges so far
abbrev pub invariant-loop-name : goal.invariant-loop-name
invariant-loop-name g l = AreSoFar g.R.Registry g.J.Journal l.initial.world l.world l.name-items l.name-index l.exchanges
