-- What is added to a list of which it may be unknown what it has.
use Rattle.std.specs.Prelude.{◌≡◌, ⊤, List, ◌++◌, Option, Some, None}

-- if it is known what the list had before, these were added at its end, and nothing else
abbrev pub Adds : {X : Type 0} → (old new : Option (List X)) → List X → Type 0
Adds None new more = ⊤
Adds (Some all) None more = ⊥
Adds (Some all) (Some longer) more = longer ≡ all ++ more
