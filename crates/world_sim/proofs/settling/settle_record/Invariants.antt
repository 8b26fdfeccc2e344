use Rattle.world_sim.proofs.SettlingLemmas.{IsSoFar}
use Rattle.world_sim.proofs.settling.settle_record.Given as goal

-- the exchanges for the record so far
abbrev pub invariant-loop-exchanges : goal.invariant-loop-exchanges
invariant-loop-exchanges g l = IsSoFar g.R.Registry g.J.Journal l.initial.world l.world l.name l.exchanges
