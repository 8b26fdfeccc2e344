use Rattle.std.proofs.Common.{refl}
use Rattle.commands.proofs.limiting.approved.Goals as goal

pub returns-in-Some : goal.returns-in-Some
returns-in-Some g c = rw c.in-Some.is c.within.ensures

pub returns-in_ok-sources-in-None : goal.returns-in_ok-sources-in-None
returns-in_ok-sources-in-None g c = rw c.in-None.is (c.in_ok-sources-in-None.sources, c.in_ok-sources-in-None.ensures, refl)
