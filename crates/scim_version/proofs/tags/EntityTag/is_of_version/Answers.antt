use Rattle.std.proofs.Common.{◌∙◌}
use Rattle.scim_version.proofs.Versions.{strong_eq-version}
use Rattle.scim_version.proofs.tags.EntityTag.is_of_version.Goals as goal

pub returns : goal.returns
returns c = c.is_version_tag.ensures ∙ rw c.text.ensures.bytes (strong_eq-version c.args.self.now c.args.version)
