use Rattle.std.proofs.Common.{◌∙◌}
use Rattle.world_sim.proofs.services.OwnService.base.Goals as goal

pub returns : goal.returns
returns c = c.base.ensures c.self.invariant ∙ c.self.view_is
