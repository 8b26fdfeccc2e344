use Rattle.std.proofs.Common.{inl, inr, refl}
use Rattle.commands.proofs.looping.runs.carry_here.Goals as goal

pub returns-in-Ok : goal.returns-in-Ok
returns-in-Ok g c = inl c.carry_to-carried.ensures

pub returns-in-Err : goal.returns-in-Err
returns-in-Err g c = inr (c.in-Err.fault, refl, refl)
