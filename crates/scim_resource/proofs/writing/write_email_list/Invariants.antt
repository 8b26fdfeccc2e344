use Rattle.std.proofs.Common.{take, flat_map}
use Rattle.scim_json.specs.Writing.{data_tokens, Adds}
use Rattle.scim_resource.specs.Writing as spec
use Rattle.scim_resource.proofs.writing.write_email_list.Given as goal

abbrev pub invariant-loop-email : goal.invariant-loop-email
invariant-loop-email l = Adds (flat_map (λ e. data_tokens (spec.email_data e)) (take l.email-index l.emails)) l.initial.out l.out
