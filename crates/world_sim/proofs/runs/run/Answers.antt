use Rattle.world_sim.specs.Events.{events_of}
use Rattle.world_sim.proofs.TellingLemmas.{events_end}
use Rattle.world_sim.proofs.runs.run.Goals as goal

pub returns-in-Err-clause-fault : goal.returns-in-Err-clause-fault
returns-in-Err-clause-fault g c =
    rw c.run_fault.ensures (events_end g.R.Registry g.J.Journal _ _ c.args.registry c.args.journal c.args.base (events_of c.args.events.now) _ c.run_telling.new.follower c.in-Err.fault c.in-Err.ensures.fault)
