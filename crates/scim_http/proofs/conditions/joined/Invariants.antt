use Rattle.std.proofs.Common.{◌≡◌, ◌++◌, ◌∷◌}
use Rattle.std.specs.List.{flat_map}
use Rattle.scim_http.specs.Meaning.{joined}
use Rattle.scim_http.proofs.conditions.joined.Given as goal

abbrev pub invariant-loop-other : goal.invariant-loop-other
invariant-loop-other l = l.text.items ++ flat_map (λ value. 44 ∷ value) l.other-iterator ≡ joined (l.first ∷ l.fn.others)
