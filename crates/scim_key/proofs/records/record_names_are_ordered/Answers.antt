use Rattle.scim_key.proofs.RecordLaws.{are_ordered}
use Rattle.scim_key.proofs.records.record_names_are_ordered.Goals as goal

pub returns : goal.returns
returns c = are_ordered
