use Rattle.std.proofs.Common.{inl}
use Rattle.commands.proofs.looping.carry_over.Goals as goal

pub returns : goal.returns
returns g c = inl (c.in_ok-sources.sources, c.carry_to.new.out.last, c.in_ok-sources.ensures, c.carry_to.ensures)
