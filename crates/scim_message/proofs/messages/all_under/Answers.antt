use Rattle.std.proofs.Common.{◌∙◌, map, sym, ap, rules}
use Rattle.std.proofs.lemmas.Iterator.Adapters.{YieldsList-from_vec}
use Rattle.std.proofs.lemmas.Iterator.Consumers.{YieldsList-end}
use Rattle.std.proofs.lemmas.List.{map-id}
use Rattle.scim_version.specs.Tags.{version_tag}
use Rattle.scim_resource.specs.Rows.{shown_under}
use Rattle.scim_message.proofs.messages.all_under.Goals as goal

pub returns : goal.returns
returns c =
    let yields = YieldsList-from_vec {s = c.into_iter-resource-iterator.result} c.args.resources.items (search rules) (search rules) in
    let done = YieldsList-end yields c.loop-resource.yielded c.loop-resource.resource-iterator c.loop-resource.yielded_by c.next.result c.next.new.self c.in-None.is c.next.ensures.steps in
    c.loop-resource.invariant ∙ ap (map (shown_under (version_tag c.args.version))) (sym (map-id _) ∙ done.0)
