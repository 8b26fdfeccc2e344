use Rattle.std.proofs.Common.{◌≡◌, map, take, true}
use Rattle.std.specs.List.{list_all}
use Rattle.scim_version.specs.Tags.{is_entity_tag}
use Rattle.scim_version.proofs.conditions.tags_of.Given as goal

abbrev pub invariant-loop-text : goal.invariant-loop-text
invariant-loop-text l =
    let passed = map (λ e. e.now) (take l.text-index l.texts) in
    record { kept : l.tags.items ≡ passed; lawful : list_all is_entity_tag passed ≡ true }
