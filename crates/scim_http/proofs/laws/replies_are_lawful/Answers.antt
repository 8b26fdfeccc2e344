use Rattle.scim_http.proofs.ReplyLaws.{replies_are_lawful}
use Rattle.scim_http.proofs.laws.replies_are_lawful.Goals as goal

pub returns : goal.returns
returns c = replies_are_lawful
