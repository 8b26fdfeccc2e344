use Rattle.sql_tables.proofs.Marking.{shows_format}
use Rattle.journal_store.proofs.Unknown.{unknown_marked_given, unknown_marked_is}
use Rattle.journal_store.proofs.formats.UnknownMarked.marked_statement.Goals as goal

pub returns-clause-query : goal.returns-clause-query
returns-clause-query c = rw c.marked_statement.ensures unknown_marked_is.reads

pub returns-clause-given : goal.returns-clause-given
returns-clause-given c = rw c.marked_statement.ensures unknown_marked_given

pub returns-clause-shows : goal.returns-clause-shows
returns-clause-shows c = rw c.marked_statement.ensures (shows_format unknown_marked_is)
