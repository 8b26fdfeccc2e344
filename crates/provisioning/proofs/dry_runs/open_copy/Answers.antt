use Rattle.std.proofs.Common.{subst}
use Rattle.journal_core.specs.Memory.{MemoryRecord}
use Rattle.connector_core.specs.State.{IsOpened}
use Rattle.provisioning.proofs.PlanLemmas.{if_ok}
use Rattle.provisioning.proofs.dry_runs.open_copy.Goals as goal

pub returns-in-Ok : goal.returns-in-Ok
returns-in-Ok c =
    if_ok c.open_over.result (λ connector opened entries list. subst (λ (copy : MemoryRecord). IsOpened copy.entries connector.book) (c.in-Ok.ensures.holds entries list) opened)
    c.open_over.ensures
