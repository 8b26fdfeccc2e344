use Rattle.std.proofs.Common.{◌∙◌}
use Rattle.provisioning.proofs.PlanLemmas.{planned}
use Rattle.provisioning.proofs.planning.plan_push.Goals as goal

pub returns-in-Ok : goal.returns-in-Ok
returns-in-Ok g c =
    planned g.J.Journal c.args.sources.now c.args.connector.now c.offer_all.new.connector _ _ _ _ c.in-Ok.is_taken c.as_slice.result.now c.in_ok-basis.basis
    c.write_planned.result c.in-Ok.ensures (c.as_slice.ensures.value ∙ c.in_ok-names.ensures) c.in_ok-basis.ensures c.write_planned.ensures.plans c.write_planned.ensures.fault
