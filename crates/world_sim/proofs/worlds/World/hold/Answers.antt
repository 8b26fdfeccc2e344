use Rattle.world_sim.proofs.Amid.{holds_told, unheld}
use Rattle.world_sim.proofs.worlds.World.hold.Goals as goal

pub returns-clause-done : goal.returns-clause-done
returns-clause-done g c =
    holds_told g.R.Registry g.J.Journal c.args.self.now c.write_row.new.self c.args.row.now c.write_row.result c.keeps_limits.ensures c.write_row.ensures.done c.write_row.ensures.mirrors

pub returns-clause-fails : goal.returns-clause-fails
returns-clause-fails g c = unheld g.R.Registry g.J.Journal c.args.self.now c.write_row.new.self c.args.row.now c.write_row.result c.write_row.ensures.fails
