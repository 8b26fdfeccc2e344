use Rattle.scim_version.proofs.Grammar.{version_tag_is_entity_tag}
use Rattle.scim_version.proofs.tags.EntityTag.of_counter.Goals as goal

pub invariant_of-result : goal.invariant_of-result
invariant_of-result c = rw c.in_ok-bytes.ensures (version_tag_is_entity_tag c.args.version c.ranges.version.fits)
