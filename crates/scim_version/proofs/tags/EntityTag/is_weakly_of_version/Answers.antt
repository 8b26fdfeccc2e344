use Rattle.std.proofs.Common.{◌∙◌}
use Rattle.scim_version.proofs.Versions.{weak_eq-version}
use Rattle.scim_version.proofs.tags.EntityTag.is_weakly_of_version.Goals as goal

pub returns : goal.returns
returns c = c.is_version_tag.ensures ∙ rw (c.without_weakness.ensures, c.text.ensures.bytes) (weak_eq-version c.args.self.now c.args.version)
