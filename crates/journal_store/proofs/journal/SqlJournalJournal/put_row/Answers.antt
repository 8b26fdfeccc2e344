use Rattle.journal_store.proofs.journal.SqlJournalJournal.put_row.Goals as goal

pub put-requires : goal.put-requires
put-requires g c = record { lawful = λ faithful. rw c.from_ref.ensures.value (c.requires.lawful faithful, tt) }

pub returns-clause-puts : goal.returns-clause-puts
returns-clause-puts g c = rw c.from_ref.ensures.value at c.put.ensures.puts
