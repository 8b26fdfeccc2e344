use Rattle.scim_resource.proofs.MemberLists.{Kept}
use Rattle.scim_resource.proofs.group_reading.members_of.Given as goal

abbrev pub invariant-loop-item : goal.invariant-loop-item
invariant-loop-item l = Kept l.items l.item-index l.values.items
