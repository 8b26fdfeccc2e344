use Rattle.scim_resource.proofs.MemberLists.{no_values}
use Rattle.scim_resource.proofs.groups.Members.new.Goals as goal

pub invariant_of-result : goal.invariant_of-result
invariant_of-result c = no_values _ c.new.ensures.items
