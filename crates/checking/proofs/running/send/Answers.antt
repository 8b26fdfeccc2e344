use Rattle.std.proofs.Common.{[], inr, refl}
use Rattle.std.proofs.lemmas.Result.{err_from_is_err_and}
use Rattle.checking.proofs.CheckLemmas.{none_opened}
use Rattle.checking.proofs.running.send.Goals as goal

pub returns-in_err-reserve : goal.returns-in_err-reserve
returns-in_err-reserve g c =
    let p = err_from_is_err_and c.from_residual.result c.from_residual.ensures.1 in
    ([], none_opened (g.D.Dial.opened c.args.dial.now), rw p.1 (inr (refl, p.2)))
