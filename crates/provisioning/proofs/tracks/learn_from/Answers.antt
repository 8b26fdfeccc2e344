use Rattle.std.proofs.Common.{ap, subst}
use Rattle.scim_message.specs.declared.messages.Request.{Request}
use Rattle.connector_core.specs.declared.keeps.Keeps.{Keeps}
use Rattle.provisioning.specs.Exchanges.{IsTaken}
use Rattle.provisioning.specs.Services.{Service, kept_for}
use Rattle.provisioning.specs.Tracks.{IsHeard}
use Rattle.provisioning.proofs.TrackLemmas.{learnt_by}
use Rattle.provisioning.proofs.tracks.learn_from.Goals as goal

pub returns : goal.returns
returns g c =
    let f = c.args.flight in
    let came = c.hear_kept-request.result.1 in
    let old = c.args.connector.now in
    let new = c.take-came.new.connector in
    let H : Keeps → Type 0 = λ keeps. IsHeard g.D.Reader.Read.remaining (kept_for keeps f.request) f.reader f.sent came in
    let T : Request → Type 0 = λ request. IsTaken g.J.Journal c.args.service.now request came old new c.take-came.result.1 in
    learnt_by g.D.Reader.Read.remaining g.J.Journal c.args.service.now f came old new c.take-came.result.1
    (subst H (ap (λ (s : Service). s.keeps) c.service.view_is) c.hear_kept-request.ensures.heard)
    (subst T c.hear_kept-request.ensures.same c.take-came.ensures)
