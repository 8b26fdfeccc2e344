use Rattle.storage.proofs.StoreShowingLemmas.{never_missing}
use Rattle.storage.proofs.store_showing.show_rows.Goals as goal

pub returns-clause-missing : goal.returns-clause-missing
returns-clause-missing g c = never_missing _ c.write_rows-shown.result c.write_rows-shown.ensures.there
