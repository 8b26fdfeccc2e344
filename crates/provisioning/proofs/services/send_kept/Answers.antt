use Rattle.std.proofs.Common.{subst, sym}
use Rattle.scim_client.specs.Exchanges.{SpellsSent}
use Rattle.connector_core.specs.declared.keeps.Keeps.{Keeps}
use Rattle.provisioning.specs.Services.{Service, kept_for}
use Rattle.provisioning.proofs.services.send_kept.Goals as goal

pub returns-in-Revisions-clause-spelled : goal.returns-in-Revisions-clause-spelled
returns-in-Revisions-clause-spelled g c =
    let base = c.service.inside.service.now in
    let request = c.args.request in
    let old = c.args.writer.now in
    let new = c.send_request-sent.new.writer in
    subst (λ (s : Service). SpellsSent s.base (kept_for s.keeps request) old new) c.service.view_is
    (subst (λ (k : Keeps). SpellsSent base (kept_for k request) old new) (sym c.in-Revisions.is)
    c.send_request-sent.ensures.spelled)

pub returns-in-Versions-clause-spelled : goal.returns-in-Versions-clause-spelled
returns-in-Versions-clause-spelled g c =
    let base = c.service.inside.service.now in
    let request = c.args.request in
    let old = c.args.writer.now in
    let new = c.send_without.new.writer in
    subst (λ (s : Service). SpellsSent s.base (kept_for s.keeps request) old new) c.service.view_is
    (subst (λ (k : Keeps). SpellsSent base (kept_for k request) old new) (sym c.in-Versions.is)
    c.send_without.ensures.spelled)
