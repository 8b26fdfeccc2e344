use Rattle.std.proofs.Common.{None}
use Rattle.scim_resource.proofs.RoundTrips.{content_spelled, content_read, content_sent}
use Rattle.scim_resource.proofs.laws.text_reads_back.Goals as goal

pub returns : goal.returns
returns c = record { spells = content_spelled; again = content_read None None; sent = content_sent }
