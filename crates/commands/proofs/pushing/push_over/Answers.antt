use Rattle.std.proofs.Common.{inl}
use Rattle.commands.proofs.pushing.push_over.Goals as goal

pub returns : goal.returns
returns g c =
    inl (
      c.in_ok-connector.connector,
      c.push_checked-ended.new.connector,
      c.close.result,
      c.in_ok-connector.ensures,
      c.push_checked-ended.ensures,
      c.close.ensures,
    )
