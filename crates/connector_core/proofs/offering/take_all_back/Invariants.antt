use Rattle.std.proofs.Common.{◌≡◌, length}
use Rattle.connector_core.specs.Offering.{all_back}
use Rattle.connector_core.proofs.offering.take_all_back.Given as goal

-- taking back the remaining notes leads to the same book
abbrev pub invariant-loop-note : goal.invariant-loop-note
invariant-loop-note l = all_back l.notes.items l.book ≡ all_back l.initial.notes.items l.initial.book

abbrev pub decreases-loop-note : goal.decreases-loop-note
decreases-loop-note l = length l.notes.items
