use Rattle.provisioning.proofs.CarryLemmas.{silent}
use Rattle.provisioning.specs.Paces.{PushesAt}
use Rattle.provisioning.proofs.over_tcp.push.Goals as goal

pub returns : goal.returns
returns g c =
    let told = c.carry_to-carried.ensures in
    silent (PushesAt _ _ g.J.Journal c.args.service.now c.args.pace) g.J.Journal c.args.sources.now told.0 c.args.connector.now c.carry_to-carried.new.connector told.1 told.2 c.carry_to-carried.result.0 told.3
