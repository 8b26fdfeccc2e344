use Rattle.journal_store.proofs.Finding.{numbers_listed}
use Rattle.journal_store.proofs.Giving.{numbers_given}
use Rattle.journal_store.proofs.Texts.{numbers_is}
use Rattle.journal_store.proofs.formats.JournalFormat.numbers_statement.Goals as goal

pub returns-clause-query : goal.returns-clause-query
returns-clause-query c = rw c.numbers_statement.ensures (numbers_is c.args.kind).reads

pub returns-clause-given : goal.returns-clause-given
returns-clause-given c = rw c.numbers_statement.ensures (numbers_given c.args.kind)

pub returns-clause-lists : goal.returns-clause-lists
returns-clause-lists c = rw c.numbers_statement.ensures (numbers_listed c.args.kind)
