use Rattle.std.proofs.Common.{take, flat_map}
use Rattle.scim_json.specs.Writing.{Adds}
use Rattle.scim_resource.specs.Writing.{urn_tokens}
use Rattle.scim_resource.proofs.writing.write_schemas.Given as goal

abbrev pub invariant-loop-extension : goal.invariant-loop-extension
invariant-loop-extension l = Adds (flat_map (λ e. urn_tokens e.0.now e.1) (take l.extension-index l.extensions)) l.initial.out l.out
