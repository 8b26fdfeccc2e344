use Rattle.world_sim.proofs.Amid.{does_asks}
use Rattle.world_sim.proofs.worlds.World.arrive_theirs.Goals as goal

pub returns-in-Ok-clause-done : goal.returns-in-Ok-clause-done
returns-in-Ok-clause-done g c =
    does_asks g.R.Registry g.J.Journal c.args.self.now c.arrive.new.self c.args.request.now c.in-Ok.status c.arrive.ensures.base c.arrive.ensures.apart c.in-Ok.ensures.done

pub returns-in-Ok-clause-mirrors : goal.returns-in-Ok-clause-mirrors
returns-in-Ok-clause-mirrors g c = λ sound w m. c.in-Ok.ensures.done.is sound w m
