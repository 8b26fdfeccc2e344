use Rattle.commands.proofs.looping.runs.run_loop.Goals as goal

pub returns : goal.returns
returns g c = (c.carry_here-carried.result, c.carry_here-carried.ensures, c.finish.ensures)
