use Rattle.scim_http.proofs.SegmentLemmas.{no_text, some_text}
use Rattle.scim_http.proofs.segments.lawful_id.Goals as goal

pub returns-in_default : goal.returns-in_default
returns-in_default c = no_text _ _ c.in_default.ensures.cases.0

pub returns-in-Ok-read : goal.returns-in-Ok-read
returns-in-Ok-read c =
    let text = c.in-Ok.ensures.cases in
    some_text c.args.bytes.now c.in-Ok.text.now c.in-Ok-read.id text.0 text.1 c.in-Ok-read.ensures.0 c.in-Ok-read.ensures.1
