use Rattle.sql_tables.proofs.Marking.{shows_format}
use Rattle.journal_store.proofs.OlderFormats.Seconds.{second_marked_given, second_marked_is}
use Rattle.journal_store.proofs.older.formats.SecondMarked.marked_statement.Goals as goal

pub returns-clause-query : goal.returns-clause-query
returns-clause-query c = rw c.marked_statement.ensures second_marked_is.reads

pub returns-clause-given : goal.returns-clause-given
returns-clause-given c = rw c.marked_statement.ensures second_marked_given

pub returns-clause-shows : goal.returns-clause-shows
returns-clause-shows c = rw c.marked_statement.ensures (shows_format second_marked_is)
