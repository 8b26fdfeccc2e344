use Rattle.std.proofs.Common.{◌≡◌, map}
use Rattle.journal_core.proofs.memory.copies.Given as goal

abbrev pub invariant-loop-entry : goal.invariant-loop-entry
invariant-loop-entry l = l.list.items ≡ map (λ e. e.1.now) l.yielded
