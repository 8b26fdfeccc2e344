use Rattle.std.proofs.Common.{◌∙◌, map, sym, ap, rules}
use Rattle.std.proofs.lemmas.Iterator.Adapters.{YieldsList-from_vec}
use Rattle.std.proofs.lemmas.Iterator.Consumers.{YieldsList-end}
use Rattle.std.proofs.lemmas.List.{map-id}
use Rattle.source_csv.specs.Rejections.{without_name}
use Rattle.source_csv.proofs.files.rows_of.Goals as goal

pub returns : goal.returns
returns c =
    let yields = YieldsList-from_vec {s = c.into_iter-record-iterator.result} c.args.records.items (search rules) (search rules) in
    let done = YieldsList-end yields c.loop-record.yielded c.loop-record.record-iterator c.loop-record.yielded_by c.next.result c.next.new.self c.in-None.is c.next.ensures.steps in
    c.loop-record.invariant ∙ ap (map without_name) (sym (map-id _) ∙ done.0)
