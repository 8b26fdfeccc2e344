use Rattle.world_sim.proofs.Amid.{does_ours}
use Rattle.world_sim.proofs.worlds.World.step_ours.Goals as goal

pub returns-in-Ok-clause-done : goal.returns-in-Ok-clause-done
returns-in-Ok-clause-done g c = does_ours g.R.Registry g.J.Journal c.args.self.now c.step.new.self c.args.event.now c.in-Ok.report c.in-Ok.ensures.done
