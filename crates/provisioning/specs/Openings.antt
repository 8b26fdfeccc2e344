-- Which streams to a provider are opened.
use Rattle.std.specs.Prelude.{List, Option, Result}
use Rattle.std.specs.declared.io.Error.{Error}
use Rattle.provisioning.specs.Lists.{Adds}

-- an opening: the reader and the writer of a new stream, or the system's error
abbrev pub Opening : (I O : Type 0) → Type 0
Opening I O = Result (I × O) Error

-- some openings were made, in this order and no others, and this is true of them
abbrev pub Opens : {X : Type 0} → (old new : Option (List X)) → (List X → Type 0) → Type 0
Opens {X} old new holds = (opened : List X) × Adds old new opened × holds opened
