use Rattle.std.proofs.Common.{◌≡◌}
use Rattle.serde_json.specs.View.{members_view}
use Rattle.scim_json.specs.Attributes as spec
use Rattle.scim_json.proofs.attributes.has_name.Given as goal

abbrev pub invariant-loop-key : goal.invariant-loop-key
invariant-loop-key l = spec.has_name l.name (members_view l.key-iterator) ≡ spec.has_name l.name (members_view l.fn.members)
