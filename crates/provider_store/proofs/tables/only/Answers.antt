use Rattle.provider_store.proofs.RowReading.{row_damaged}
use Rattle.sql_tables.proofs.Items.{one_item}
use Rattle.provider_store.proofs.tables.only.Goals as goal

pub returns-in-None : goal.returns-in-None
returns-in-None c =
    let row = c.row-item.result in
    let rows = one_item c.args.rows.now row c.in-len1.len_at_least c.in-len1.len_below c.row-item.is in
    row_damaged c.args.rows.now row rows (rw c.in-None.is at c.in_ok-stored-in-len1.ensures.none)
