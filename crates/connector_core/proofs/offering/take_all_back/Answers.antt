use Rattle.std.proofs.Common.{◌∙◌, sym}
use Rattle.connector_core.proofs.Offered.{back-noted}
use Rattle.connector_core.proofs.offering.take_all_back.Goals as goal

pub loop-note-preserved : goal.loop-note-preserved
loop-note-preserved c =
    sym (back-noted c.pop.new.self.items c.loop-note.notes.items c.in-Some.note c.take_back.new.book c.loop-note.book c.in-Some.ensures.items (sym c.take_back.ensures)) ∙ c.loop-note.invariant
