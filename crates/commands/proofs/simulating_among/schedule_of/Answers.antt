use Rattle.std.proofs.Common.{ap, subst, sym}
use Rattle.scim_key.specs.Outcome.{GivesBy}
use Rattle.world_sim.specs.Schedules.{acts_in, events_in}
use Rattle.world_sim.specs.declared.schedules.ScheduleFault.TheVariants.{Memory}
use Rattle.commands.specs.SimulationsAmong.{alone_or, said_by}
use Rattle.commands.proofs.AmongLemmas.{no_events}
use Rattle.commands.proofs.simulating_among.schedule_of.Goals as goal

pub returns-in-Ok : goal.returns-in-Ok
returns-in-Ok c records_in reads = ap (λ said. alone_or said (acts_in records_in c.args.text.now)) (c.in-Ok.ensures records_in reads)

pub returns-in-Err-Line : goal.returns-in-Err-Line
returns-in-Err-Line c records_in reads =
    subst (GivesBy said_by Memory c.among_of.result)
    (sym (no_events c.in-Err-Line.field-0 c.in-Err-Line.field-0-0 (events_in records_in c.args.text.now) (acts_in records_in c.args.text.now) c.in-Err-Line.field-0-is (c.in-Err-Line.ensures records_in reads)))
    (c.among_of.ensures records_in reads)
