use Rattle.sql_tables.proofs.Marking.{shows_format}
use Rattle.journal_store.proofs.OlderFormats.Firsts.{first_marked_given, first_marked_is}
use Rattle.journal_store.proofs.older.formats.FirstMarked.marked_statement.Goals as goal

pub returns-clause-query : goal.returns-clause-query
returns-clause-query c = rw c.marked_statement.ensures first_marked_is.reads

pub returns-clause-given : goal.returns-clause-given
returns-clause-given c = rw c.marked_statement.ensures first_marked_given

pub returns-clause-shows : goal.returns-clause-shows
returns-clause-shows c = rw c.marked_statement.ensures (shows_format first_marked_is)
