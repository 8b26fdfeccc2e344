use Rattle.std.proofs.Common.{◌≡◌}
use Rattle.commands.proofs.looping.views.print_views.Given as goal

-- no fault of the provider's store was counted so far
abbrev pub invariant-loop-name : goal.invariant-loop-name
invariant-loop-name g l =
    (goal.iterator-loop-name g).can_next l.name-iterator × (goal.iterator-loop-name g).is_finite l.name-iterator
    × (g.R.Registry.faults l.provider ≡ g.R.Registry.faults l.initial.provider)
