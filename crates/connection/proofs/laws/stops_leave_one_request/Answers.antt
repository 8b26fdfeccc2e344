use Rattle.std.proofs.Common.{inl, inr}
use Rattle.connection.proofs.laws.stops_leave_one_request.Goals as goal

pub returns : goal.returns
returns g c old new read faithful honest leaves found may = elim (leaves.stop honest found may) [
  | inl before ↦ inl (g.met.R.Registry.settled old found faithful before)
  | inr after ↦ inr after.1
]
