use Rattle.std.proofs.Common.{◌≡◌, ℤ, List, map, take}
use Rattle.sqlite_value.specs.Order.{column}
use Rattle.sqlite_value.specs.declared.value.Value.TheVariants.{Int}
use Rattle.journal_store.proofs.Numbering.{Rising, last_of}
use Rattle.journal_store.proofs.opening.check_rising.Given as goal

-- the numbers of the rows so far, and the last of them
abbrev pub invariant-loop-row : goal.invariant-loop-row
invariant-loop-row l = (numbers : List ℤ) × (map (λ r. column r 0) (take l.row-index l.rows) ≡ map Int numbers) × Rising numbers × (l.last ≡ last_of numbers)
