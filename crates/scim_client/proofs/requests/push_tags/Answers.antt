use Rattle.scim_client.proofs.Tags.{one_more, one_written}
use Rattle.scim_client.proofs.requests.push_tags.Goals as goal

pub loop-tag-preserved : goal.loop-tag-preserved
loop-tag-preserved c =
    let tags = c.args.tags.now in
    let i = c.loop-tag.tag-index in
    let tag = c.tag-item.result in (
      one_written c.loop-tag.text.items c.push_tag.new.text.items _ tags i tag c.loop-tag-test.true c.tag-item.is c.loop-tag.invariant.0 c.in_ok-push_tag.ensures.text,
      one_more tags i tag c.loop-tag-test.true c.tag-item.is c.loop-tag.invariant.1 c.in_ok-push_tag.ensures.lawful,
    )
