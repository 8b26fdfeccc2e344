use Rattle.std.proofs.Common.{take, flat_map}
use Rattle.scim_json.specs.Writing.{data_tokens, Adds}
use Rattle.scim_resource.specs.Writing as spec
use Rattle.scim_resource.proofs.group_writing.write_member_list.Given as goal

abbrev pub invariant-loop-value : goal.invariant-loop-value
invariant-loop-value l = Adds (flat_map (λ v. data_tokens (spec.member_data v)) (take l.value-index l.values)) l.initial.out l.out
