use Rattle.std.proofs.Common.{[], ◌∙◌, sym}
use Rattle.std.proofs.lemmas.Result.{err_from_is_err_and}
use Rattle.provisioning.proofs.ListLemmas.{adds_none}
use Rattle.provisioning.proofs.TrackLemmas.{delays, ends_learning}
use Rattle.provisioning.proofs.tracks.advance.Goals as goal

pub returns-in_err-fault-in-UnderWay : goal.returns-in_err-fault-in-UnderWay
returns-in_err-fault-in-UnderWay g c =
    let p = err_from_is_err_and c.from_residual.result c.from_residual.ensures.1 in
    rw (p.1, p.2) (
      [],
      adds_none (g.D.Dial.opened c.args.dial.now),
      ends_learning g.D.Reader.Read.remaining g.D.Writer.Write.contents g.J.Journal c.args.service.now c.args.track c.in-UnderWay.account c.in-UnderWay.flight c.in_err-fault-in-UnderWay.field-0.0
          c.args.connector.now c.learn_from-learnt.new.connector c.learn_from-learnt.result.0 c.in-UnderWay.is (c.in_err-fault-in-UnderWay.was) c.learn_from-learnt.ensures,
    )

pub returns-then-puts_off : goal.returns-then-puts_off
returns-then-puts_off g c = (
  [],
  adds_none (g.D.Dial.opened c.args.dial.now),
  delays g.D.Reader.Read.remaining g.D.Writer.Write.contents g.J.Journal c.args.service.now c.args.track c.in-UnderWay.account c.in-UnderWay.flight c.in_ok-fault-in-UnderWay.fault
      c.args.connector.now c.learn_from-learnt.new.connector c.learn_from-learnt.result.0 c.faulted.result c.put_off.result c.in-UnderWay.is (c.in_ok-fault-in-UnderWay.was) c.learn_from-learnt.ensures
      (sym c.may_wait.ensures ∙ c.if-may_wait.true) c.faulted.ensures c.put_off.ensures,
)
