use Rattle.std.proofs.Common.{inl}
use Rattle.commands.proofs.looping.carry_journaled.Goals as goal

pub returns : goal.returns
returns g c =
    inl (
      c.in_ok-connector.connector,
      c.carry_over-ended.new.connector,
      c.close.result,
      c.in_ok-connector.ensures,
      c.carry_over-ended.ensures,
      c.close.ensures,
    )
