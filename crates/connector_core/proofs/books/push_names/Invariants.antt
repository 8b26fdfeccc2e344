use Rattle.std.proofs.Common.{◌≡◌, ◌++◌, map}
use Rattle.connector_core.specs.Trees.{of}
use Rattle.connector_core.proofs.books.push_names.Given as goal

abbrev pub invariant-loop-key : goal.invariant-loop-key
invariant-loop-key l = l.names.items ≡ l.initial.names.items ++ map (of l.kind) (map (λ key. key.now) l.yielded)
