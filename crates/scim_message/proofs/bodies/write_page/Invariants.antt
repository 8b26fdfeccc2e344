use Rattle.std.proofs.Common.{take, flat_map}
use Rattle.scim_json.specs.Writing.{data_tokens, Adds}
use Rattle.scim_resource.specs.Writing.{shown_data}
use Rattle.scim_message.specs.Fitting.{AreLawful}
use Rattle.scim_message.proofs.bodies.write_page.Given as goal

abbrev pub invariant-loop-resource : goal.invariant-loop-resource
invariant-loop-resource l =
    Adds (flat_map (λ s. data_tokens (shown_data l.base s)) (take l.resource-index l.page)) l.initial.out l.out × AreLawful (take l.resource-index l.page)
