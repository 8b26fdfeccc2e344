use Rattle.scim_key.proofs.RevisionLaws.{nexts_follow}
use Rattle.scim_key.proofs.revisions.next_revisions_follow.Goals as goal

pub returns : goal.returns
returns c = nexts_follow
