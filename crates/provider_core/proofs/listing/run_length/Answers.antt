use Rattle.std.proofs.Common.{arith, slice_index}
use Rattle.provider_core.proofs.PlaceLaws.{run-more}
use Rattle.provider_core.proofs.listing.run_length.Goals as goal

pub loop-run-preserved : goal.loop-run-preserved
loop-run-preserved c = record {
  some = omega arith;
  within = omega arith;
  follow = run-more c.args.places.now (slice_index c.args.places.now 0) c.loop-run.run (omega arith) c.loop-run.invariant.follow c.if-places-run.true;
}
