use Rattle.std.proofs.Common.{inl}
use Rattle.commands.proofs.looping.carry_from_memory.Goals as goal

pub returns : goal.returns
returns g c =
    inl (
      c.in_ok-connector.connector,
      c.carry_over.new.connector,
      tt,
      c.in_ok-connector.ensures,
      c.carry_over.ensures,
      tt,
    )
