use Rattle.scim_key.proofs.IdLemmas.{id_is_lawful}
use Rattle.scim_resource.proofs.Tags.{id_is_text, version_tag_is_tag, version_tag_is_short, version_tag_is_text}
use Rattle.scim_resource.proofs.rows.Shown.of.Goals as goal

pub invariant_of-result : goal.invariant_of-result
invariant_of-result c = record {
  id = rw c.in_ok-id.ensures (id_is_lawful c.args.stored.now.number);
  id_text = rw c.in_ok-id.ensures (id_is_text c.args.stored.now.number);
  tag = rw c.in_ok-of_counter.ensures (version_tag_is_tag c.version.result c.version.ensures.to);
  short = rw c.in_ok-of_counter.ensures (version_tag_is_short c.version.result c.version.ensures.to);
  text = rw c.in_ok-of_counter.ensures (version_tag_is_text c.version.result c.version.ensures.to);
}
