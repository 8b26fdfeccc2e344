use Rattle.sql_tables.proofs.Results.{if_ok}
use Rattle.storage.proofs.LookingLemmas.{or_none}
use Rattle.storage.proofs.journal_file.JournalFileEntryStorage.look.Goals as goal

pub returns-in-Ok : goal.returns-in-Ok
returns-in-Ok g c = if_ok c.seen_of.result (λ seen it. or_none _ _ _ seen it) c.seen_of.ensures
