use Rattle.scim_resource.proofs.Presence.{text_if_is_text}
use Rattle.scim_resource.proofs.texts.OptionalText.from_string.Goals as goal

pub invariant_of-result : goal.invariant_of-result
invariant_of-result c = text_if_is_text _ c.requires
