use Rattle.provisioning.proofs.CarryLemmas.{told_by}
use Rattle.provisioning.specs.Paces.{PushesAt}
use Rattle.provisioning.proofs.over_tcp.carry_to.Goals as goal

pub returns : goal.returns
returns g c = (
  c.carry_at-carried.ensures.0,
  c.args.teller,
  c.carry_at-carried.new.teller.teller,
  told_by (PushesAt _ _ g.J.Journal c.args.service.now c.args.pace) g.J.Journal c.args.sources.now c.carry_at-carried.ensures.0 c.args.connector.now c.carry_at-carried.new.connector (λ it. it.teller) g.T.Hear.heard g.T.Tell.told (record c.carry_at-carried.new.teller { teller = c.args.teller }) c.carry_at-carried.new.teller c.carry_at-carried.result c.carry_at-carried.ensures.2,
)
