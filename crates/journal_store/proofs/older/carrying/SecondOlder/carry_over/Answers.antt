use Rattle.sql_tables.proofs.Results.{on_ok}
use Rattle.journal_store.proofs.older.carrying.SecondOlder.carry_over.Goals as goal

pub returns-clause-emptied : goal.returns-clause-emptied
returns-clause-emptied g c clean = on_ok c.carry_second.result (λ none kind. (none kind, none kind)) (c.carry_second.ensures.emptied clean)
