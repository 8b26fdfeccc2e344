use Rattle.scim_key.proofs.RevisionLaws.{are_read_back}
use Rattle.scim_key.proofs.revisions.revisions_are_read_back.Goals as goal

pub returns : goal.returns
returns c = are_read_back
