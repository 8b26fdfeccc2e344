use Rattle.provisioning.proofs.CarryLemmas.{silent}
use Rattle.provisioning.specs.Runs.{PushesAll}
use Rattle.provisioning.specs.Services.{keeping_at}
use Rattle.commands.proofs.looping.runs.carry_to.Goals as goal

pub returns : goal.returns
returns g c = silent (PushesAll _ _ g.J.Journal (keeping_at c.args.service.now)) g.J.Journal c.args.sources.now c.carry.ensures.0 c.args.connector.now c.carry.new.connector c.carry.new.teller c.carry.new.teller c.carry.result c.carry.ensures.2
