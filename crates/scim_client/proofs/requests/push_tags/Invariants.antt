use Rattle.std.proofs.Common.{◌≡◌, ◌++◌, codes, drop, take}
use Rattle.std.specs.List.{AllByRecursion, flat_map}
use Rattle.scim_version.specs.Tags.{IsEntityTag}
use Rattle.scim_client.proofs.requests.push_tags.Given as goal

abbrev pub invariant-loop-tag : goal.invariant-loop-tag
invariant-loop-tag l =
    (l.text.items ++ flat_map (λ tag. codes ", " ++ tag) (drop l.tag-index l.tags) ≡ l.initial.text.items ++ flat_map (λ tag. codes ", " ++ tag) l.tags)
    × AllByRecursion IsEntityTag (take l.tag-index l.tags)
