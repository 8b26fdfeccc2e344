use Rattle.journal_store.proofs.OlderFormats.Seconds.{second_all_given, second_all_is, second_listed}
use Rattle.journal_store.proofs.older.formats.SecondFormat.list_statement.Goals as goal

pub returns-clause-query : goal.returns-clause-query
returns-clause-query c = rw c.second_all_statement.ensures (second_all_is c.args.kind).reads

pub returns-clause-given : goal.returns-clause-given
returns-clause-given c = rw c.second_all_statement.ensures (second_all_given c.args.kind)

pub returns-clause-lists : goal.returns-clause-lists
returns-clause-lists c = rw c.second_all_statement.ensures (second_listed c.args.kind)
