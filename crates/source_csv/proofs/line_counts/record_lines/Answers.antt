use Rattle.std.proofs.Common.{◌≡◌, ap, ◌∙◌, arith}
use Rattle.csv.specs.Records.{fields_of}
use Rattle.source_csv.specs.Columns.{field}
use Rattle.source_csv.specs.Lines.{field_lines}
use Rattle.source_csv.proofs.LineLemmas.{one_field_more}
use Rattle.source_csv.proofs.line_counts.record_lines.Goals as goal

pub loop-place-preserved : goal.loop-place-preserved
loop-place-preserved c =
    let fields = fields_of c.args.raw.now in
    let more = one_field_more c.loop-place.most fields c.loop-place.place (omega (arith, c.loop-place-test.true, c.len-place-end.ensures)) c.loop-place.invariant in
    let lines : c.field_lines.result ≡ field_lines (field fields c.loop-place.place) = c.field_lines.ensures ∙ ap field_lines c.bytes_at.ensures in
    rw (c.greater-most.ensures, lines) more
