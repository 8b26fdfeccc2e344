use Rattle.std.proofs.Common.{take}
use Rattle.std.specs.List.{AllByRecursion}
use Rattle.world_sim.specs.Following.{RunsTold}
use Rattle.world_sim.proofs.following.make_all.Given as goal

-- the transitions before this one were made, and their reports were told
abbrev pub invariant-loop-next : goal.invariant-loop-next
invariant-loop-next g l =
    RunsTold g.D.Transition.runs g.F.Follow.told g.F.Follow.does l.initial.world l.world (take l.next-index l.all) l.initial.follower l.follower
    × AllByRecursion (g.D.Transition.fits l.world) l.all
