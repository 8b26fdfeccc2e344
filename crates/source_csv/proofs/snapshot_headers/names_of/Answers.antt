use Rattle.std.proofs.Common.{◌<◌, length, arith}
use Rattle.csv.specs.Records.{fields_of}
use Rattle.source_csv.proofs.FieldLemmas.{names_pushed}
use Rattle.source_csv.proofs.snapshot_headers.names_of.Goals as goal

pub loop-place-preserved : goal.loop-place-preserved
loop-place-preserved c =
    let fields = fields_of c.args.header.now in
    let less : c.loop-place.place < length fields = omega (arith, c.loop-place-test.true, c.len-place-end.ensures) in
    names_pushed c.loop-place.names.items c.push.new.self.items c.bytes_at.result fields c.loop-place.place c.in_ok-push.ensures.items c.bytes_at.ensures less c.loop-place.invariant
