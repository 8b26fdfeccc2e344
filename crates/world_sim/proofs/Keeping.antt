-- What an event that failed keeps.
use Rattle.std.proofs.Common.{◌≡◌, Some, Result, Ok, Err, OnErr, ap, sym, ◌∙◌}
use Rattle.connector_core.specs.State.{State}
use Rattle.world_sim.specs.Running.{known_in}
use Rattle.world_sim.specs.declared.sides.Side.{Side}
use Rattle.world_sim.specs.declared.sides.Side.TheVariants.{Open}

pub on_err : {T F : Type 0} {P Q : Type 0} (r : Result T F) → (P → Q) → OnErr r P → OnErr r Q
on_err (Ok x) f p = tt
on_err (Err e) f p = f p

pub all_err : {T F : Type 0} {Q : Type 0} (r : Result T F) → Q → OnErr r Q
all_err (Ok x) q = tt
all_err (Err e) q = q

-- the book of the connector is unchanged
pub known_still : {J : Type 0} (side : Side J) (before after : State J) → side ≡ Open before → after.book ≡ before.book → known_in (Open after) ≡ known_in side
known_still side before after was same = ap Some same ∙ sym (ap known_in was)
