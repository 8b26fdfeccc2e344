use Rattle.std.proofs.Common.{◌∙◌, ap}
use Rattle.journal_core.specs.Memory.{MemoryRecord}
use Rattle.journal_core.proofs.Kept.{after, of-list}
use Rattle.journal_core.proofs.memory.MemoryJournal.from_entries.Goals as goal

pub returns-clause-holds : goal.returns-clause-holds
returns-clause-holds c entries list = ap (λ held. after held 0) (c.in_ok-entries.ensures.holds ∙ of-list entries c.args.list.items list)
