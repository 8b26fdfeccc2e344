use Rattle.std.proofs.Common.{◌∙◌, List, Result, ap, subst}
use Rattle.std.specs.List.{count_by}
use Rattle.source_csv.specs.declared.faults.RowFault.{RowFault}
use Rattle.source_csv.specs.declared.rows.Row.{Row}
use Rattle.provisioning.specs.Leavers.{GoesAhead, is_leaver}
use Rattle.provisioning.specs.Offering.{rows_in}
use Rattle.provisioning.proofs.LeaverLemmas.{counted_sources}
use Rattle.provisioning.proofs.leavers.count_leavers.Goals as goal

pub returns : goal.returns
returns g c =
    let book = c.args.connector.now.book in
    let users = subst (λ (rs : List (Result Row RowFault)). GoesAhead book c.new-ahead.result c.take_all.new.self (rows_in rs))
    c.records.ensures c.in_ok-take_all.ensures in
    c.leavers_among.ensures
    ∙ ap (count_by (is_leaver c.take_groups.new.self book)) (c.as_slice.ensures.value ∙ c.in_ok-names.ensures)
    ∙ counted_sources book c.new-ahead.result c.take_all.new.self c.take_groups.new.self c.args.sources.now
    (c.new-ahead.ensures book) users c.in_ok-take_groups.ensures
