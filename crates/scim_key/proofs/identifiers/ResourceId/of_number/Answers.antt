use Rattle.std.proofs.Common.{◌∙◌, ap}
use Rattle.scim_key.specs.Identifiers.{id_fault}
use Rattle.scim_key.proofs.IdLemmas.{id_is_lawful}
use Rattle.scim_key.proofs.identifiers.ResourceId.of_number.Goals as goal

pub invariant_of-result : goal.invariant_of-result
invariant_of-result c = ap id_fault (c.in_ok-from_str.ensures.ok ∙ c.spell.ensures) ∙ id_is_lawful _
