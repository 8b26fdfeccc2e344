use Rattle.std.proofs.Common.{Ok, Err, ap}
use Rattle.provisioning.specs.declared.tracks.Account.{Account}
use Rattle.provisioning.specs.declared.tracks.Track.TheVariants.{UnderWay}
use Rattle.provisioning.proofs.tracks.set_out.Goals as goal

pub returns-in-Err : goal.returns-in-Err
returns-in-Err g c = (Err c.in-Err.error, c.in-Err.ensures, ap Err c.open_fault.ensures)

pub returns : goal.returns
returns g c = (
  Ok c.in-Ok.stream,
  c.in-Ok.ensures,
  (c.send_on-flight.result, c.send_on-flight.ensures, ap (λ (a : Account). Ok (UnderWay a c.send_on-flight.result)) c.counted.ensures),
)
