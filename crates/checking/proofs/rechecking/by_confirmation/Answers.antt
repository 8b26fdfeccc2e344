use Rattle.std.proofs.Common.{not, filter, rules, tests}
use Rattle.std.proofs.lemmas.Iterator.Adapters.{YieldsList-from_vec}
use Rattle.std.proofs.lemmas.Iterator.Consumers.{items_from_parts, parts_from_yields_List}
use Rattle.connector_core.specs.Maps.{book_of}
use Rattle.checking.specs.Rechecks.{is_carried}
use Rattle.checking.proofs.rechecking.by_confirmation.Goals as goal

pub returns : goal.returns
returns g c =
    let due = is_carried (book_of c.args.connector.now.book) in
    items_from_parts c.partition.result (filter due c.args.names.items) (filter (λ name. not (due name)) c.args.names.items)
    (parts_from_yields_List _ due _ c.partition.ensures.ran (YieldsList-from_vec {s = c.into_iter.result} c.args.names.items c.into_iter.ensures.rest (search rules)) (λ x r q k. search (rules, tests)))
