use Rattle.scim_key.proofs.IdLemmas.{id_is_lawful}
use Rattle.scim_resource.proofs.Tags.{id_is_text, version_tag_is_tag, version_tag_is_short, version_tag_is_text}
use Rattle.scim_resource.proofs.rows.Shown.with_content.Goals as goal

pub invariant_of-result : goal.invariant_of-result
invariant_of-result c = record {
  id = rw c.in_ok-of_number.ensures (id_is_lawful c.row.inside.number);
  id_text = rw c.in_ok-of_number.ensures (id_is_text c.row.inside.number);
  tag = rw c.in_ok-of_counter.ensures (version_tag_is_tag c.row.inside.version c.row.invariant.version_within);
  short = rw c.in_ok-of_counter.ensures (version_tag_is_short c.row.inside.version c.row.invariant.version_within);
  text = rw c.in_ok-of_counter.ensures (version_tag_is_text c.row.inside.version c.row.invariant.version_within);
}
