use Rattle.std.proofs.Common.{ap, sym, subst, ◌∙◌}
use Rattle.scim_client.specs.Exchanges.{SpellsSent}
use Rattle.scim_message.specs.declared.messages.Request.{Request}
use Rattle.provisioning.specs.Services.{Service, kept_for}
use Rattle.provisioning.proofs.ServiceLemmas.{written_as_kept, written_bare}
use Rattle.provisioning.proofs.services.send_to.Goals as goal

pub returns-then-service-clause-spelled : goal.returns-then-service-clause-spelled
returns-then-service-clause-spelled g c =
    let service = c.args.service.now in
    subst (λ (r : Request). SpellsSent service.base r c.args.writer.now c.send_kept.new.writer)
    (written_as_kept service c.args.request (sym (ap (λ (s : Service). s.is_versioned) c.service.view_is) ∙ c.if-service.true))
    c.send_kept.ensures.spelled

pub returns-clause-spelled : goal.returns-clause-spelled
returns-clause-spelled g c =
    let service = c.args.service.now in
    subst (λ (r : Request). SpellsSent service.base r c.args.writer.now c.send_kept-bare.new.writer)
    (ap (kept_for service.keeps) c.with_conditions-bare.ensures.under
    ∙ written_bare service c.args.request (sym (ap (λ (s : Service). s.is_versioned) c.service.view_is) ∙ c.if-service.false))
    c.send_kept-bare.ensures.spelled
