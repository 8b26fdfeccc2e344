use Rattle.std.proofs.Common.{rules}
use Rattle.commands.proofs.simulating_among.simulate_among.Goals as goal

pub returns-in-Ok-clause-done : goal.returns-in-Ok-clause-done
returns-in-Ok-clause-done g c = record { printed = c.in-Ok.printed; prints = c.in-Ok.ensures.prints; status_is = search rules }
