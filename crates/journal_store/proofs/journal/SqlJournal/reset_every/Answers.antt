use Rattle.std.proofs.Common.{ap, rules}
use Rattle.journal_core.specs.Forgetting.{forgotten}
use Rattle.journal_store.specs.declared.scopes.ResetResult.{ResetResult}
use Rattle.journal_store.proofs.Calls.{writes_on}
use Rattle.journal_store.proofs.Undertaking.{failed_so}
use Rattle.journal_store.proofs.journal.SqlJournal.reset_every.Goals as goal

pub returns-in_err-forget-clause-puts : goal.returns-in_err-forget-clause-puts
returns-in_err-forget-clause-puts g c =
    let reads = c.in_ok-count.ensures.reads in
    let failed = failed_so g.S.Store ResetResult (writes_on g.S.Store reads (λ it. ap forgotten (reads.same it)) c.in_err-forget.ensures.puts) in
    search rules
