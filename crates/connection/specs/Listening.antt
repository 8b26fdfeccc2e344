-- Which connections a listener accepts.
use Rattle.std.specs.Prelude.{◌≡◌, ⊤, List, [], ◌∷◌, ◌++◌, Option, Some, None, Result, Ok, Err}

-- the connections that were accepted are the first of those that waited, if these are known
abbrev pub Takes : {C : Type 0} → (old new : Option (List C)) → List C → Type 0
Takes None new taken = ⊤
Takes (Some all) None taken = ⊥
Takes (Some all) (Some left) taken = all ≡ taken ++ left

-- one connection is accepted, or none if that fails
abbrev pub Accepts : {C E : Type 0} → (old new : Option (List C)) → Result C E → Type 0
Accepts old new (Ok connection) = Takes old new (connection ∷ [])
Accepts old new (Err fault) = Takes old new []
