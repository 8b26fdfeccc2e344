use Rattle.std.proofs.Common.{◌≡◌, ◌∙◌, true, false, is_some, ap, refl, sym}
use Rattle.std.specs.FinMap.{keys}
use Rattle.connector_core.specs.Book.{wanted_row}
use Rattle.connector_core.specs.Maps.{book_of}
use Rattle.snapshots.specs.Snapshots.{mentions_in, unsure}
use Rattle.snapshots.specs.Tally.{counts}
use Rattle.snapshots.proofs.Whole.{sure_whole, unsure_whole}
use Rattle.snapshots.proofs.numbering.number.Goals as goal

pub returns-then-is_some-clause-rows : goal.returns-then-is_some-clause-rows
returns-then-is_some-clause-rows g c =
    let doubtful : is_some c.doubt-unsure.result ≡ true = sym c.is_some.ensures ∙ c.if-is_some.true in
    unsure_whole (wanted_row (book_of c.args.connector.now.book)) (keys c.args.connector.now.book) c.args.kind
    c.args.records.items c.args.is_closed
    (counts c.in_ok-tally.tally) c.in_ok-rows.rows.items c.in_ok-rows.rows.items c.doubt-unsure.result
    (λ name. c.in_ok-tally.ensures.counts name ∙ ap (λ l. mentions_in l name) c.deref.ensures.value)
    c.in_ok-rows.ensures (c.doubt-unsure.ensures ∙ ap (λ l. unsure c.args.is_closed l) c.deref-2.ensures.value)
    doubtful refl

pub returns-clause-rows : goal.returns-clause-rows
returns-clause-rows g c =
    let certain : is_some c.doubt-unsure.result ≡ false = sym c.is_some.ensures ∙ c.if-is_some.false in
    sure_whole (wanted_row (book_of c.args.connector.now.book)) (keys c.args.connector.now.book) c.args.kind
    c.args.records.items c.args.is_closed
    (counts c.in_ok-tally.tally) c.in_ok-rows.rows.items c.push_absent.new.rows.items c.doubt-unsure.result
    (λ name. c.in_ok-tally.ensures.counts name ∙ ap (λ l. mentions_in l name) c.deref.ensures.value)
    c.in_ok-rows.ensures (c.doubt-unsure.ensures ∙ ap (λ l. unsure c.args.is_closed l) c.deref-2.ensures.value) certain
    c.in_ok-push_absent.ensures
