use Rattle.world_sim.proofs.services.OwnService.bytes_of.Goals as goal

pub returns-clause-spelled : goal.returns-clause-spelled
returns-clause-spelled c = rw (← c.self.view_is) c.bytes_of.ensures.spelled
