use Rattle.std.proofs.Common.{Ok, take}
use Rattle.world_sim.specs.Imaging.{HasIdsOf, LooksUp}
use Rattle.world_sim.proofs.imaging.ids_of.Given as goal

-- the ids of the members before this one were looked up
abbrev pub invariant-loop-member : goal.invariant-loop-member
invariant-loop-member g l = LooksUp {T = Unit {0}} g.R.Registry l.initial.provider l.provider (Ok tt)
    × (g.R.Registry.is_faithful l.provider → HasIdsOf l.ids (g.R.Registry.rows l.initial.provider) (take l.member-index l.members))
