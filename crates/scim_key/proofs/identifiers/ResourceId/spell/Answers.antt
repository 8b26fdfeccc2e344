use Rattle.std.proofs.Common.{◌∙◌, ap}
use Rattle.scim_key.proofs.IdLemmas.{spelled}
use Rattle.uuid.specs.Text as uuid
use Rattle.scim_key.proofs.identifiers.ResourceId.spell.Goals as goal

pub returns : goal.returns
returns c = c.encode_lower.ensures.text ∙ ap (uuid.hyphenated_text uuid.lower) (c.hyphenated.ensures ∙ c.uuid_of.ensures) ∙ spelled _ c.requires
