use Rattle.std.proofs.Common.{subst}
use Rattle.scim_client.specs.Exchanges.{SpellsSent}
use Rattle.scim_message.specs.declared.messages.Request.{Request}
use Rattle.provisioning.proofs.services.send_without.Goals as goal

pub returns-clause-spelled : goal.returns-clause-spelled
returns-clause-spelled g c =
    subst (λ (r : Request). SpellsSent c.args.service.now r c.args.writer.now c.send_request-sent.new.writer)
    c.with_revision-written.ensures c.send_request-sent.ensures.spelled
