use Rattle.std.proofs.Common.{inl}
use Rattle.commands.proofs.pushing.push_approved.Goals as goal

pub returns-in-Ok-Some : goal.returns-in-Ok-Some
returns-in-Ok-Some g c =
    let approves = rw c.in-Ok-Some.field-0-is at c.in-Ok-Some.ensures in
    inl (c.in-Ok-Some.sources, approves, c.push_known.ensures)
