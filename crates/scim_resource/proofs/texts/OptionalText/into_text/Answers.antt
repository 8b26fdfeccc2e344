use Rattle.std.proofs.Common.{◌∙◌}
use Rattle.scim_resource.proofs.Presence.{text_if_of}
use Rattle.scim_resource.proofs.texts.OptionalText.into_text.Goals as goal

pub returns : goal.returns
returns c = text_if_of _ _ c.self.invariant c.from_string.ensures ∙ c.self.view_is
