use Rattle.sqlite.specs.Held.{state}
use Rattle.journal_store.proofs.Batching.{prepared_leaves}
use Rattle.journal_store.proofs.batches.check_open.Goals as goal

pub returns-clause-left : goal.returns-clause-left
returns-clause-left g c clean =
    prepared_leaves (λ s. s.text) (state g.S.Store c.args.tables.now.conn.now) (state g.S.Store c.prepare.new.self.conn.now) c.find_statement.result.now c.prepare.result (c.prepare.ensures.ok clean) (c.prepare.ensures.err clean)
