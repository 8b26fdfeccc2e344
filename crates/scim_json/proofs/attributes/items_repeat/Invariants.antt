use Rattle.std.proofs.Common.{◌≡◌, drop}
use Rattle.serde_json.specs.View.{items_view}
use Rattle.scim_json.specs.Attributes as spec
use Rattle.scim_json.proofs.attributes.items_repeat.Given as goal

abbrev pub invariant-loop-item : goal.invariant-loop-item
invariant-loop-item l = spec.items_repeat (items_view (drop l.item-index l.items)) ≡ spec.items_repeat (items_view l.items)
