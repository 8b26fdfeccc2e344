use Rattle.std.proofs.Common.{◌∙◌}
use Rattle.std.proofs.lemmas.Result.{IfOk-weaker}
use Rattle.world_sim.proofs.ScheduleLemmas.{joined}
use Rattle.world_sim.proofs.schedules.header.Goals as goal

pub returns : goal.returns
returns c = IfOk-weaker c.join.result _ _ (λ t is. is ∙ joined c.args.columns.now) c.join.ensures.ok
