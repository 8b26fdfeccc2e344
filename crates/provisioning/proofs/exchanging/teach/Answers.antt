use Rattle.std.proofs.Common.{Ok, Err, refl}
use Rattle.provisioning.proofs.exchanging.teach.Goals as goal

pub returns-in-Ok : goal.returns-in-Ok
returns-in-Ok g c = let e = c.in-Ok.ensures in record {
  learnt = Ok c.in-Ok.field-0;
  learns = record { learnt = e.learnt; ok = e.ok; err = e.err; names = e.names; journal = e.journal; quiet = e.quiet; leaves = e.leaves };
  result_is = refl;
}

pub returns-in-Err : goal.returns-in-Err
returns-in-Err g c = let e = c.in-Err.ensures in record {
  learnt = Err c.in-Err.fault;
  learns = record { learnt = e.learnt; ok = e.ok; err = e.err; names = e.names; journal = e.journal; quiet = e.quiet; leaves = e.leaves };
  result_is = c.unlearnt.ensures;
}
