use Rattle.std.proofs.Common.{rules}
use Rattle.journal_core.proofs.Kept.{lawful-same, row-put}
use Rattle.journal_core.proofs.memory.put_named.Goals as goal

pub returns-in_err-put_row-clause-lawful : goal.returns-in_err-put_row-clause-lawful
returns-in_err-put_row-clause-lawful c = lawful-same c.args.entries.now c.put_row.new.entries c.requires.lawful (search rules)

pub returns-clause-lawful : goal.returns-clause-lawful
returns-clause-lawful c =
    (row-put c.args.entries.now c.put_row.new.entries c.args.row c.args.row c.in_ok-name.name c.requires.lawful c.requires.can c.in_ok-name.ensures (search rules) c.in_ok-put_row.ensures.ok).0

pub returns-clause-put : goal.returns-clause-put
returns-clause-put c =
    (row-put c.args.entries.now c.put_row.new.entries c.args.row c.args.row c.in_ok-name.name c.requires.lawful c.requires.can c.in_ok-name.ensures (search rules) c.in_ok-put_row.ensures.ok).1
