use Rattle.std.proofs.Common.{◌≡◌, ◌<◌, ◌∙◌, false, true, length, ap, sym, arith, add-one}
use Rattle.std.specs.Str.{is_utf8}
use Rattle.csv.specs.Records.{fields_of}
use Rattle.source_csv.proofs.FieldLemmas.{none_is, some_is, text_here}
use Rattle.source_csv.proofs.fields.is_text.Goals as goal

pub returns-in_default : goal.returns-in_default
returns-in_default c =
    let fields = fields_of c.args.raw.now in
    let less : c.loop-place.place < length fields = omega (arith, c.loop-place-test.true, c.len-place-end.ensures) in
    let other : is_utf8 c.bytes_at.result.now ≡ false = none_is _ _ c.text_of.result c.in_default.is c.text_of.ensures in
    text_here fields c.loop-place.place false less (ap is_utf8 (sym c.bytes_at.ensures) ∙ other) c.loop-place.invariant

pub loop-place-preserved : goal.loop-place-preserved
loop-place-preserved c =
    let fields = fields_of c.args.raw.now in
    let less : c.loop-place.place < length fields = omega (arith, c.loop-place-test.true, c.len-place-end.ensures) in
    let here = some_is _ _ c.text_of.result _ c.in-Some.is c.text_of.ensures in
    rw add-one (text_here fields c.loop-place.place true less (ap is_utf8 (sym c.bytes_at.ensures) ∙ here.1) c.loop-place.invariant)
