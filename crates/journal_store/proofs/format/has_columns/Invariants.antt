use Rattle.std.proofs.Common.{◌≡◌, map, take}
use Rattle.journal_store.specs.Tables.{column_of}
use Rattle.journal_store.proofs.format.has_columns.Given as goal

-- the columns so far are these
abbrev pub invariant-loop-at : goal.invariant-loop-at
invariant-loop-at l = take l.at l.columns ≡ map column_of (take l.at l.wanted)
