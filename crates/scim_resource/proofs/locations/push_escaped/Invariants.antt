use Rattle.std.proofs.Common.{◌≡◌, ◌++◌, take, string_bytes}
use Rattle.scim_resource.specs.Locations as spec
use Rattle.scim_resource.proofs.locations.push_escaped.Given as goal

abbrev pub invariant-loop-byte : goal.invariant-loop-byte
invariant-loop-byte l =
    (l.byte-items ≡ l.text) × (string_bytes l.out ≡ string_bytes l.initial.out ++ spec.escaped (take l.byte-index l.byte-items))
