use Rattle.scim_key.proofs.RevisionLaws.{is_order}
use Rattle.scim_key.proofs.revisions.revisions_are_ordered.Goals as goal

pub returns : goal.returns
returns c = is_order
