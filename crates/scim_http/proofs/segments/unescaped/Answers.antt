use Rattle.std.proofs.Common.{◌∙◌}
use Rattle.scim_http.proofs.SegmentLemmas.{prepended-end}
use Rattle.scim_http.proofs.segments.unescaped.Goals as goal

pub returns : goal.returns
returns c = prepended-end c.loop-rest.text.items c.loop-rest.rest.now c.in_default.len_below ∙ c.loop-rest.invariant
