use Rattle.journal_core.proofs.Kept.{list-of}
use Rattle.journal_core.proofs.memory.MemoryJournalJournal.load.Goals as goal

pub returns-clause-ok : goal.returns-clause-ok
returns-clause-ok c = λ _. rw (c.in_ok-copies.ensures.copied, ← c.self.view_is)
    (list-of c.self.inside.entries c.self.invariant c.in_ok-copies.ensures.ordered c.in_ok-copies.ensures.found)
