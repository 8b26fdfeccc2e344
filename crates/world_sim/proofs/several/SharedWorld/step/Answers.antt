use Rattle.std.proofs.Common.{refl}
use Rattle.world_sim.specs.Running.{FailsOurs}
use Rattle.world_sim.specs.Events.{event_of}
use Rattle.world_sim.specs.Running.{Happens}
use Rattle.world_sim.proofs.SharingLemmas.{done_at, happens_there}
use Rattle.world_sim.proofs.several.SharedWorld.step.Goals as goal

pub returns-in-Ok-clause-done : goal.returns-in-Ok-clause-done
returns-in-Ok-clause-done g c =
    happens_there g.R.Registry g.J.Journal c.args.self.now c.sit-2.new.self c.args.place (event_of c.args.event.now) c.in-Ok.report
    (done_at c.args.self.now c.sit.new.self (record c.sit.new.self { first = c.step-result.new.self }) c.sit-2.new.self c.args.place
    (λ was is. Happens g.R.Registry g.J.Journal was is (event_of c.args.event.now) c.in-Ok.report)
    c.sit.ensures.seat c.sit.ensures.first c.sit.ensures.others refl c.in-Ok.ensures.done c.sit-2.ensures.seat c.sit-2.ensures.first c.sit-2.ensures.others)

pub returns-in-Err-clause-fails : goal.returns-in-Err-clause-fails
returns-in-Err-clause-fails g c =
    done_at c.args.self.now c.sit.new.self (record c.sit.new.self { first = c.step-result.new.self }) c.sit-2.new.self c.args.place
    (λ was is. FailsOurs g.R.Registry g.J.Journal was is (event_of c.args.event.now) c.in-Err.fault)
    c.sit.ensures.seat c.sit.ensures.first c.sit.ensures.others refl
    (record { fails = c.in-Err.ensures.fails; keeps = c.in-Err.ensures.keeps; apart = c.in-Err.ensures.apart })
    c.sit-2.ensures.seat c.sit-2.ensures.first c.sit-2.ensures.others
