use Rattle.std.proofs.Common.{◌∙◌, ap, sym}
use Rattle.std.specs.List.{list_any}
use Rattle.std.specs.Option.{option_copied}
use Rattle.std.specs.Vec.Iter.{into_iter_items}
use Rattle.scim_key.specs.Records.{same_name}
use Rattle.connector_core.specs.Maps.{book_of}
use Rattle.provisioning.specs.Bases.{confirmed_row, kept_row}
use Rattle.provisioning.proofs.CompareLemmas.{kept_none, one_kept, unlisted}
use Rattle.provisioning.proofs.bases.confirmed_rows.Goals as goal

pub loop-name-init : goal.loop-name-init
loop-name-init g c name none =
    kept_none c.new-rows.result name c.new-rows.ensures.empty ∙ sym (unlisted c.args.connector.now.book name
    (ap (list_any (same_name name)) (sym (c.into_iter-name-iterator.ensures.into_iter_gives.0 ∙ c.in_ok-name-items.ensures)) ∙ none))

pub loop-name-preserved : goal.loop-name-preserved
loop-name-preserved g c =
    one_kept (kept_row c.loop-name.rows) (kept_row c.keep_row.new.rows) (confirmed_row (book_of c.args.connector.now.book)) c.in-Some.name
    (option_copied c.confirmed_row-row.result) (into_iter_items c.loop-name.name-iterator) (into_iter_items c.next.new.self) c.in-Some.ensures.steps.0
    c.confirmed_row-row.ensures c.in_ok-keep_row.ensures c.loop-name.invariant
