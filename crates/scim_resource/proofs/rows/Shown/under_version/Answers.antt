use Rattle.scim_resource.proofs.Tags.{version_tag_is_tag, version_tag_is_short, version_tag_is_text}
use Rattle.scim_resource.proofs.rows.Shown.under_version.Goals as goal

pub invariant_of-result : goal.invariant_of-result
invariant_of-result c = record {
  id = c.self.invariant.id;
  id_text = c.self.invariant.id_text;
  tag = rw c.in_ok-of_counter.ensures (version_tag_is_tag c.args.version c.requires);
  short = rw c.in_ok-of_counter.ensures (version_tag_is_short c.args.version c.requires);
  text = rw c.in_ok-of_counter.ensures (version_tag_is_text c.args.version c.requires);
}
