use Rattle.std.proofs.Common.{◌≡◌, take}
use Rattle.scim_resource.specs.Locations as spec
use Rattle.scim_resource.proofs.locations.is_plain.Given as goal

abbrev pub invariant-loop-byte : goal.invariant-loop-byte
invariant-loop-byte l =
    (l.byte-items ≡ l.text) × (spec.escaped (take l.byte-index l.byte-items) ≡ take l.byte-index l.byte-items)
