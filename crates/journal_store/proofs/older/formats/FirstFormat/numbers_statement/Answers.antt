use Rattle.journal_store.proofs.OlderFormats.Firsts.{first_numbers_given, first_numbers_is, first_numbers_listed}
use Rattle.journal_store.proofs.older.formats.FirstFormat.numbers_statement.Goals as goal

pub returns-clause-query : goal.returns-clause-query
returns-clause-query c = rw c.first_numbers_statement.ensures (first_numbers_is c.args.kind).reads

pub returns-clause-given : goal.returns-clause-given
returns-clause-given c = rw c.first_numbers_statement.ensures (first_numbers_given c.args.kind)

pub returns-clause-lists : goal.returns-clause-lists
returns-clause-lists c = rw c.first_numbers_statement.ensures (first_numbers_listed c.args.kind)
