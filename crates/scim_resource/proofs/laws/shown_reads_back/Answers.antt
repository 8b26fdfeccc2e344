use Rattle.scim_resource.proofs.RoundTrips.{shown_spelled, content_read}
use Rattle.scim_resource.proofs.ShownTrips.{shown_read}
use Rattle.scim_resource.proofs.laws.shown_reads_back.Goals as goal

pub returns : goal.returns
returns c = record { spells = shown_spelled; again = λ base s h. content_read _ _ s.content h; whole = shown_read }
