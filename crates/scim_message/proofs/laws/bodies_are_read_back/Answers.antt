use Rattle.scim_message.proofs.BodyTrips.{body_read}
use Rattle.scim_message.proofs.laws.bodies_are_read_back.Goals as goal

pub returns : goal.returns
returns c = body_read
