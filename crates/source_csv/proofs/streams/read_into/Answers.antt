use Rattle.csv.specs.Records.{fields_of}
use Rattle.source_csv.specs.Streams.{IsPlain}
use Rattle.source_csv.proofs.StreamLemmas.{not_failed, takes}
use Rattle.source_csv.proofs.streams.read_into.Goals as goal

pub returns-in-Ok-clause-records : goal.returns-in-Ok-clause-records
returns-in-Ok-clause-records g c records left =
    let plain : IsPlain c.args.reader.now = c.requires (not_failed g.R.Read.remaining c.args.reader.now left.0 left.1) in
    takes g.R.Read.remaining c.args.reader.now c.read_byte_record.new.self (fields_of c.read_byte_record.new.row) c.in-Ok.found records plain left (c.in-Ok.ensures.reads plain.trim plain.ready)
