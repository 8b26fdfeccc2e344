use Rattle.std.proofs.Common.{◌≡◌}
use Rattle.serde_json.specs.View.{members_view}
use Rattle.scim_json.specs.Attributes as spec
use Rattle.scim_json.proofs.attributes.repeats_one_of_few.Given as goal

abbrev pub invariant-loop-key : goal.invariant-loop-key
invariant-loop-key l = spec.repeats (members_view l.later) ≡ spec.repeats (members_view l.members.entries)
