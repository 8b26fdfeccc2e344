use Rattle.scim_http.proofs.SegmentLaws.{segments_are_spelled}
use Rattle.scim_http.proofs.laws.segments_are_spelled.Goals as goal

pub returns : goal.returns
returns c = segments_are_spelled
