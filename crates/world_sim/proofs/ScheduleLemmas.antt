-- What lines of a schedule say, and the columns of a file's header.
use Rattle.std.proofs.Common.{◌≡◌, ℕ, List, [], ◌∷◌, ◌++◌, Bor, Result, Ok, refl, ap, append-nil, codes}
use Rattle.std.specs.List.{join_by, join_with_byte}
use Rattle.scim_key.specs.Outcome.{◌>>=◌}
use Rattle.source_csv.specs.Fields.{named}
use Rattle.world_sim.specs.declared.schedules.ScheduleFault.{ScheduleFault}

-- the columns with commas between them
pub joined : (columns : List (Bor (List ℕ))) → join_by (λ (column : Bor (List ℕ)). column.now) (codes ",") columns ≡ join_with_byte 44 (named columns)
joined [] = refl
joined (x ∷ []) = append-nil x.now
joined (x ∷ y ∷ columns) = ap (λ rest. x.now ++ 44 ∷ rest) (joined (y ∷ columns))

-- what lines say behind what was said
abbrev pub behind : {T : Type 0} → List T → Result (List T) ScheduleFault → Result (List T) ScheduleFault
behind all said = said >>= λ more. Ok (all ++ more)
