use Rattle.std.proofs.Common.{◌≡◌, ◌∙◌, ◌++◌, ◌∷◌, [], List, ap, sym, rules}
use Rattle.source_csv.specs.declared.rows.Row.{Row}
use Rattle.provisioning.proofs.OfferLemmas.{none_next, row_next}
use Rattle.provisioning.proofs.offering.rows_in.Goals.{in-Ok+in_ok-clone+in_ok-push, in_default}
use Rattle.provisioning.proofs.offering.rows_in.Goals as goal

pub loop-record-preserved : goal.loop-record-preserved
loop-record-preserved c =
    let records = c.args.records.now in
    let i = c.loop-record.record-index in
    let found = c.record-item.result in
    let xs = c.loop-record.rows.items in
    elim c.match-record.branch [
      | in-Ok+in_ok-clone+in_ok-push w ↦
          let row = w.in-Ok.row in
          let copied : w.in_ok-clone.field-0 ≡ row = search rules in
          let more : c.match-record.rows.items ≡ xs ++ row ∷ [] = ap (λ x. x.items) w.rows-is ∙ w.in_ok-push.ensures.items ∙ ap (λ (r : Row). xs ++ r ∷ []) copied in
          more ∙ ap (λ (ys : List Row). ys ++ row ∷ []) c.loop-record.invariant ∙ sym (row_next records i found row c.loop-record-test.true c.record-item.is w.in-Ok.is)
      | in_default w ↦
          let same : c.match-record.rows.items ≡ xs = ap (λ x. x.items) w.rows-is in
          same ∙ c.loop-record.invariant ∙ sym (none_next records i found w.in_default.field-0 c.loop-record-test.true c.record-item.is w.in_default.is)
    ]
