use Rattle.std.proofs.Common.{refl, rules}
use Rattle.world_sim.proofs.WholeRuns.{starts_now}
use Rattle.world_sim.proofs.worlds.World.new.Goals as goal

pub returns-in-Ok-clause-starts : goal.returns-in-Ok-clause-starts
returns-in-Ok-clause-starts g c = starts_now g.R.Registry g.J.Journal _ c.args.registry c.in-Ok.connector c.args.journal (search rules) c.new-in-Ok.ensures refl c.new-in-Ok-2.ensures.items
    c.in-Ok.ensures.opened c.in-Ok.ensures.reads.was c.in-Ok.ensures.reads.opened c.in-Ok.ensures.leaves (g.met.R.Registry.settled c.args.registry)
