use Rattle.std.proofs.Common.{refl, sym}
use Rattle.provisioning.specs.Exchanges.{lost}
use Rattle.provisioning.proofs.exchanging.take.Goals as goal

pub returns-in-Err : goal.returns-in-Err
returns-in-Err g c = record {
  came = lost c.in-Err.fault;
  answer_is = sym c.in-Err.is;
  becomes = refl;
  result_is = c.unanswered.ensures;
}
