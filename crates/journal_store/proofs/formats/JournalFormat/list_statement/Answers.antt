use Rattle.journal_store.proofs.Finding.{all_listed}
use Rattle.journal_store.proofs.Giving.{all_given}
use Rattle.journal_store.proofs.Texts.{all_is}
use Rattle.journal_store.proofs.formats.JournalFormat.list_statement.Goals as goal

pub returns-clause-query : goal.returns-clause-query
returns-clause-query c = rw c.all_statement.ensures (all_is c.args.kind).reads

pub returns-clause-given : goal.returns-clause-given
returns-clause-given c = rw c.all_statement.ensures (all_given c.args.kind)

pub returns-clause-lists : goal.returns-clause-lists
returns-clause-lists c = rw c.all_statement.ensures (all_listed c.args.kind)
