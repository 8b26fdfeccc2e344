use Rattle.std.proofs.Common.{subst}
use Rattle.provisioning.proofs.ServiceLemmas.{takes_answer, takes_none}
use Rattle.provisioning.specs.Exchanges.{IsTaught}
use Rattle.provisioning.specs.Services.{Service}
use Rattle.provisioning.proofs.exchanging.learn.Goals as goal

pub returns-in-Ok : goal.returns-in-Ok
returns-in-Ok g c =
    let taught = subst (λ (s : Service). IsTaught g.J.Journal s.keeps c.args.request.now c.in-Ok.answer c.args.connector.now c.teach-taken.new.connector c.teach-taken.result)
    c.service.view_is c.teach-taken.ensures in
    takes_answer g.J.Journal c.args.service.now c.args.request.now c.args.answer c.in-Ok.answer c.args.connector.now c.teach-taken.new.connector c.teach-taken.result c.in-Ok.ensures taught

pub returns-in-Err : goal.returns-in-Err
returns-in-Err g c = takes_none g.J.Journal c.args.service.now c.args.request.now c.args.answer c.args.connector.now
