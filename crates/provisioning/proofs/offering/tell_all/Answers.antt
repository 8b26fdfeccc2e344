use Rattle.std.proofs.Common.{◌≡◌, ◌+◌, ◌&&◌, length, drop, ap, arith, rules}
use Rattle.std.proofs.lemmas.Result.{err_from_is_err_and}
use Rattle.std.specs.Vec.Iter.{into_iter_items, into_iter_len}
use Rattle.provisioning.specs.Offering.{judged_of, judged_row}
use Rattle.provisioning.proofs.OfferLemmas.{left_here, told_more, told_part}
use Rattle.provisioning.proofs.offering.tell_all.Goals.{then-is_taken, else-is_taken}
use Rattle.provisioning.proofs.offering.tell_all.Goals as goal

pub returns-in_err-taken : goal.returns-in_err-taken
returns-in_err-taken g c =
    let p = err_from_is_err_and c.from_residual.result c.from_residual.ensures.1 in
    let book = c.args.connector.now.book in
    let i = c.loop-index.index in
    let rest = into_iter_items c.next.new.self in
    let left = left_here book c.args.kind c.args.records.now i c.index-records-index.result c.in-Ok.row (into_iter_items c.loop-index.verdicts) rest c.in-Some.verdict c.loop-index-test.true c.index-records-index.is c.in-Ok.is c.in-Some.ensures.cases.0 in
    rw (p.1, p.2) (told_part _ _ (judged_of book c.args.kind (i + 1 + 1) (drop (i + 1) c.args.records.now) rest) (judged_row book c.args.kind (i + 1) c.in-Ok.row c.in-Some.verdict) (g.T.Hear.heard c.args.teller.now)
    (g.T.Hear.heard c.loop-index.teller) (g.T.Hear.heard c.tell_row.new.teller) c.loop-index.is_taken c.in_err-taken.field-0.0 left c.loop-index.invariant.0 c.in_err-taken.ensures.1)

pub loop-index-preserved : goal.loop-index-preserved
loop-index-preserved g c =
    let book = c.args.connector.now.book in
    let i = c.loop-index.index in
    let rest = into_iter_items c.next.new.self in
    let left = left_here book c.args.kind c.args.records.now i c.index-records-index.result c.in-Ok.row (into_iter_items c.loop-index.verdicts) rest c.in-Some.verdict c.loop-index-test.true c.index-records-index.is c.in-Ok.is c.in-Some.ensures.cases.0 in
    let both : c.if-is_taken.is_taken ≡ (c.loop-index.is_taken && c.in_ok-taken.taken) = elim c.if-is_taken.branch [
      | then-is_taken w ↦ search rules
      | else-is_taken w ↦ search rules
    ] in
    let long : into_iter_len c.next.new.self ≡ length rest = omega (arith, c.in-Some.ensures.cases.1, c.loop-index.invariant.1, ap length c.in-Some.ensures.cases.0) in (
      told_more _ _ (judged_of book c.args.kind (i + 1 + 1) (drop (i + 1) c.args.records.now) rest) (judged_row book c.args.kind (i + 1) c.in-Ok.row c.in-Some.verdict) (g.T.Hear.heard c.args.teller.now)
          (g.T.Hear.heard c.loop-index.teller) (g.T.Hear.heard c.tell_row.new.teller) c.loop-index.is_taken c.in_ok-taken.taken c.if-is_taken.is_taken left c.loop-index.invariant.0 c.in_ok-taken.ensures both,
      long,
    )
