use Rattle.journal_store.proofs.OlderFormats.Firsts.{first_all_given, first_all_is, first_listed}
use Rattle.journal_store.proofs.older.formats.FirstFormat.list_statement.Goals as goal

pub returns-clause-query : goal.returns-clause-query
returns-clause-query c = rw c.first_all_statement.ensures (first_all_is c.args.kind).reads

pub returns-clause-given : goal.returns-clause-given
returns-clause-given c = rw c.first_all_statement.ensures (first_all_given c.args.kind)

pub returns-clause-lists : goal.returns-clause-lists
returns-clause-lists c = rw c.first_all_statement.ensures (first_listed c.args.kind)
