use Rattle.sql_tables.proofs.Marking.{shows_format}
use Rattle.journal_store.proofs.Giving.{marked_given}
use Rattle.journal_store.proofs.Texts.{marked_is}
use Rattle.journal_store.proofs.formats.JournalMarked.marked_statement.Goals as goal

pub returns-clause-query : goal.returns-clause-query
returns-clause-query c = rw c.marked_statement.ensures marked_is.reads

pub returns-clause-given : goal.returns-clause-given
returns-clause-given c = rw c.marked_statement.ensures marked_given

pub returns-clause-shows : goal.returns-clause-shows
returns-clause-shows c = rw c.marked_statement.ensures (shows_format marked_is)
