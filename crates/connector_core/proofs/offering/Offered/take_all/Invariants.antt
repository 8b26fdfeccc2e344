use Rattle.std.proofs.Common.{◌≡◌}
use Rattle.connector_core.specs.Offering.{AreOffered, all_back}
use Rattle.connector_core.proofs.offering.Offered.take_all.Given as goal

-- the rows so far are taken, and can be taken back
abbrev pub invariant-loop-row : goal.invariant-loop-row
invariant-loop-row l = AreOffered l.initial.book l.book l.yielded l.self × (all_back l.self.notes.items l.book ≡ all_back l.initial.self.notes.items l.initial.book)
