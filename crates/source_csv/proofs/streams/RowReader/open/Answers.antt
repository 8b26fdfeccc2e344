use Rattle.std.proofs.lemmas.Result.{err_from_is_err_and}
use Rattle.csv.specs.Reading.{reader_config, reader_state, source_of}
use Rattle.source_csv.specs.declared.layouts.Separator.TheVariants.{Comma}
use Rattle.source_csv.proofs.StreamLemmas.{opens}
use Rattle.source_csv.proofs.streams.RowReader.open.Goals as goal

pub returns-clause-records : goal.returns-clause-records
returns-clause-records g c bytes known records are =
    let start = c.reader_over-reader.ensures in
    let left = opens (g.R.Read.remaining c.args.source) (source_of g.R.Read.remaining c.reader_over-reader.result) Comma (reader_config c.reader_over-reader.result) (reader_state c.reader_over-reader.result) bytes records start.source known are start.config start.state in
    c.in_ok-columns.ensures.ok records left

pub returns-in_err-columns-clause-records : goal.returns-in_err-columns-clause-records
returns-in_err-columns-clause-records g c bytes known records are =
    let start = c.reader_over-reader.ensures in
    let left = opens (g.R.Read.remaining c.args.source) (source_of g.R.Read.remaining c.reader_over-reader.result) Comma (reader_config c.reader_over-reader.result) (reader_state c.reader_over-reader.result) bytes records start.source known are start.config start.state in
    let made = err_from_is_err_and c.from_residual.result c.from_residual.ensures.1 in
    rw (made.1, made.2) (c.in_err-columns.ensures.err records left)
