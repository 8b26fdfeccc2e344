use Rattle.std.proofs.Common.{◌∙◌, Some, ap}
use Rattle.std.proofs.lemmas.Result.{err_from_is_err_and}
use Rattle.checking.specs.Rechecks.{groups_in}
use Rattle.checking.proofs.RecheckLemmas.{checked_in_vain, compared, not_compared}
use Rattle.checking.proofs.rechecking.compare.Goals as goal

pub returns-in_err-names-clause-ended : goal.returns-in_err-names-clause-ended
returns-in_err-names-clause-ended g c =
    let p = err_from_is_err_and c.from_residual.result c.from_residual.ensures.1 in
    rw p.1 (not_compared g.D.Reader.Read.remaining g.D.Writer.Write.contents c.args.service.now c.args.connector.now.book
    (g.D.Dial.opened c.args.dial.now) p.0 (p.2 ∙ c.in_err-names.ensures.fault))

pub returns-in_err-carried-clause-ended : goal.returns-in_err-carried-clause-ended
returns-in_err-carried-clause-ended g c =
    let given = c.from_residual-in_err-carried in
    let p = err_from_is_err_and given.result given.ensures.1 in
    rw p.1 (not_compared g.D.Reader.Read.remaining g.D.Writer.Write.contents c.args.service.now c.args.connector.now.book
    (g.D.Dial.opened c.args.dial.now) p.0 p.2)

pub returns-in_err-groups-clause-ended : goal.returns-in_err-groups-clause-ended
returns-in_err-groups-clause-ended g c =
    let given = c.from_residual-in_err-groups in
    let p = err_from_is_err_and given.result given.ensures.1 in
    rw p.1 (not_compared g.D.Reader.Read.remaining g.D.Writer.Write.contents c.args.service.now c.args.connector.now.book
    (g.D.Dial.opened c.args.dial.now) p.0 p.2)

pub returns-in_err-doubtful-clause-ended : goal.returns-in_err-doubtful-clause-ended
returns-in_err-doubtful-clause-ended g c =
    let given = c.from_residual-in_err-doubtful in
    let p = err_from_is_err_and given.result given.ensures.1 in
    rw p.1 (not_compared g.D.Reader.Read.remaining g.D.Writer.Write.contents c.args.service.now c.args.connector.now.book
    (g.D.Dial.opened c.args.dial.now) p.0 p.2)

pub returns-in_err-with_groups-in-Ok-clause-ended :
    goal.returns-in_err-with_groups-in-Ok-clause-ended
returns-in_err-with_groups-in-Ok-clause-ended g c =
    let given = c.from_residual-in_err-with_groups-in-Ok in
    let p = err_from_is_err_and given.result given.ensures.1 in
    rw p.1 (checked_in_vain g.D.Reader.Read.remaining g.D.Writer.Write.contents c.args.service.now
    c.args.connector.now.book (g.D.Dial.opened c.args.dial.now) (g.D.Dial.opened c.check_all-checked.new.dial)
    c.in_ok-names.names.items c.in_ok-carried.carried.items c.in_ok-carried.others.items c.in_ok-names.ensures.order
    c.in_ok-carried.ensures (Some c.in_ok-doubtful.doubtful.items)
    (Some c.check_all-checked.new.teller.doubtful.items) c.in-Ok.field-0 p.0 c.in-Ok.ensures p.2)

pub returns-in_ok-with_groups-in-Ok-clause-compared :
    goal.returns-in_ok-with_groups-in-Ok-clause-compared
returns-in_ok-with_groups-in-Ok-clause-compared g c =
    compared g.D.Reader.Read.remaining g.D.Writer.Write.contents c.args.service.now
    c.args.connector.now.book (g.D.Dial.opened c.args.dial.now) (g.D.Dial.opened c.check_all-checked.new.dial)
    c.in_ok-names.names.items c.in_ok-carried.carried.items c.in_ok-carried.others.items c.in_ok-names.ensures.order
    c.in_ok-carried.ensures c.in_ok-groups.groups.items c.in_ok-doubtful.doubtful.items
    c.check_all-checked.new.teller.doubtful.items c.in_ok-with_groups-in-Ok.field-0.items c.in-Ok.field-0
    c.in-Ok.ensures c.in_ok-doubtful.ensures (c.in_ok-groups.ensures ∙ ap groups_in c.as_slice.ensures.value) c.in_ok-with_groups-in-Ok.ensures
