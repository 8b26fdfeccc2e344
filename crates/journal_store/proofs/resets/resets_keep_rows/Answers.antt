use Rattle.journal_store.proofs.Forgetting.{forgets_only}
use Rattle.journal_store.proofs.resets.resets_keep_rows.Goals as goal

pub returns : goal.returns
returns c = forgets_only
