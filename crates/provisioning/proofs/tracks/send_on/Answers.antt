use Rattle.std.proofs.Common.{refl, subst}
use Rattle.scim_client.specs.Exchanges.{SpellsSent, Starts}
use Rattle.scim_client.specs.Requests.{text_of}
use Rattle.http_text.specs.Counts.{Writing}
use Rattle.provisioning.specs.Services.{written_for}
use Rattle.provisioning.proofs.tracks.send_on.Goals as goal

pub returns : goal.returns
returns g c =
    let service = c.args.service.now in
    let written = written_for service c.args.request in
    let sent = c.send_to-request in record {
      written = sent.new.writer;
      request_is = sent.ensures.same;
      reader_is = refl;
      starts = subst (λ (w : Writing). Starts (text_of service.base written) w sent.new.writer sent.result.1) c.new-output.ensures sent.ensures.sent;
      spelled = subst (λ (w : Writing). SpellsSent service.base written w sent.new.writer) c.new-output.ensures sent.ensures.spelled;
    }
