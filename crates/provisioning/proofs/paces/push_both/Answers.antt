use Rattle.std.proofs.Common.{◌++◌, Ok, Err, ap, inl, inr, refl}
use Rattle.std.proofs.lemmas.Result.{err_from_is_err_and}
use Rattle.provisioning.proofs.ListLemmas.{adds_more}
use Rattle.provisioning.proofs.paces.push_both.Goals as goal

pub returns-in_err-tally : goal.returns-in_err-tally
returns-in_err-tally g c =
    let p = err_from_is_err_and c.from_residual.result c.from_residual.ensures.1 in
    let a = c.in_err-tally.ensures in
    rw (p.1, p.2) (a.0, a.1, inr (c.in_err-tally.field-0.0, a.2, refl))

pub returns-in-Ok : goal.returns-in-Ok
returns-in-Ok g c =
    let a = c.in_ok-tally.ensures in
    let m = c.in-Ok.ensures in (
      a.0 ++ m.0,
      adds_more (g.D.Dial.opened c.args.dial.now) (g.D.Dial.opened c.push_abreast.new.dial) (g.D.Dial.opened c.push_abreast-2.new.dial) a.0 m.0 a.1 m.1,
      inl (a.0, m.0, c.push_abreast.new.connector, g.T.Tell.told c.push_abreast.new.teller, c.in_ok-tally.tally, Ok c.in-Ok.more, refl, a.2, m.2, ap Ok c.both.ensures),
    )

pub returns-in-Err : goal.returns-in-Err
returns-in-Err g c =
    let a = c.in_ok-tally.ensures in
    let m = c.in-Err.ensures in (
      a.0 ++ m.0,
      adds_more (g.D.Dial.opened c.args.dial.now) (g.D.Dial.opened c.push_abreast.new.dial) (g.D.Dial.opened c.push_abreast-2.new.dial) a.0 m.0 a.1 m.1,
      inl (a.0, m.0, c.push_abreast.new.connector, g.T.Tell.told c.push_abreast.new.teller, c.in_ok-tally.tally, Err c.in-Err.fault, refl, a.2, m.2, refl),
    )
