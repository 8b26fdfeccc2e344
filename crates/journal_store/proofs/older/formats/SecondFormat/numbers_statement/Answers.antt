use Rattle.journal_store.proofs.OlderFormats.Seconds.{second_numbers_given, second_numbers_is, second_numbers_listed}
use Rattle.journal_store.proofs.older.formats.SecondFormat.numbers_statement.Goals as goal

pub returns-clause-query : goal.returns-clause-query
returns-clause-query c = rw c.second_numbers_statement.ensures (second_numbers_is c.args.kind).reads

pub returns-clause-given : goal.returns-clause-given
returns-clause-given c = rw c.second_numbers_statement.ensures (second_numbers_given c.args.kind)

pub returns-clause-lists : goal.returns-clause-lists
returns-clause-lists c = rw c.second_numbers_statement.ensures (second_numbers_listed c.args.kind)
