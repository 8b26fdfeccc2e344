use Rattle.std.proofs.Common.{[], inl, inr, refl}
use Rattle.provisioning.proofs.ListLemmas.{adds_none}
use Rattle.provisioning.proofs.carrying.carry_at.Goals as goal

pub returns-in-Ok : goal.returns-in-Ok
returns-in-Ok g c =
    let pushed = c.push_at-tally.ensures.pushes in
    (pushed.0, pushed.1, inl (c.offer_all.new.connector, c.offer_all.new.teller, c.in-Ok.is_taken, c.push_at-tally.result, c.in-Ok.ensures, pushed.2, c.outcome_of.ensures))

pub returns-in-Err : goal.returns-in-Err
returns-in-Err g c = ([], adds_none (g.D.Dial.opened c.args.dial.now), inr (c.in-Err.fault, refl, c.in-Err.ensures, refl))
