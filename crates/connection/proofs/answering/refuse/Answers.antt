use Rattle.std.proofs.Common.{inr, refl}
use Rattle.scim_http.specs.Replies.{fixed_reply}
use Rattle.connection.proofs.answering.refuse.Goals as goal

pub returns-in-Err-clause-sent : goal.returns-in-Err-clause-sent
returns-in-Err-clause-sent g c = (fixed_reply, inr refl, c.send_fixed.ensures.sent)
