use Rattle.std.proofs.Common.{◌≡◌, length}
use Rattle.scim_http.specs.Segments.{unescaped}
use Rattle.scim_http.proofs.SegmentLemmas.{prepended}
use Rattle.scim_http.proofs.segments.unescaped.Given as goal

abbrev pub invariant-loop-rest : goal.invariant-loop-rest
invariant-loop-rest l = prepended l.text.items (unescaped l.rest) ≡ unescaped l.segment

abbrev pub decreases-loop-rest : goal.decreases-loop-rest
decreases-loop-rest l = length l.rest
