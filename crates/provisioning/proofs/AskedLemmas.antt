-- The two halves of an exchange: a request that was sent on a stream, and what came there.
use Rattle.std.proofs.Common.{ℕ, List, Option, Result, Ok, Err, sym, subst}
use Rattle.scim_message.specs.declared.messages.Answer.{Answer}
use Rattle.scim_message.specs.declared.messages.Request.{Request}
use Rattle.http_text.specs.Counts.{Writing, fresh_reading, fresh_writing}
use Rattle.scim_client.specs.Exchanges.{SpellsSent, Starts}
use Rattle.scim_client.specs.Requests.{text_of}
use Rattle.scim_client.specs.declared.exchange.ExchangeFault.{ExchangeFault}
use Rattle.scim_client.proofs.ExchangeLemmas.{hindered_known, reads_none, sends_fault, sends_reply}
use Rattle.provisioning.specs.Exchanges.{IsAsked}
use Rattle.provisioning.specs.Services.{Service, kept_for, written_for}
use Rattle.provisioning.specs.Tracks.{IsHeard, IsReadFrom, IsSetOut}
use Rattle.provisioning.specs.declared.tracks.Flight.{Flight}

module _ {I O : Type 0} (remaining : I → Option (List ℕ)) (contents : O → Option (List ℕ)) (service : Service) (request : Request) (reader : I) (writer : O) where
  asked_whole : (written : Writing) (came : Result Answer ExchangeFault) → Starts (text_of service.base (written_for service request)) (fresh_writing (contents writer)) written (Ok tt) → SpellsSent service.base (written_for service request) (fresh_writing (contents writer)) written
      → IsReadFrom remaining (kept_for service.keeps request) reader came → IsAsked remaining contents service request reader writer came
  asked_whole written came starts spelled read = record {
    left = read.left;
    written = written;
    sent = sends_reply (text_of service.base (written_for service request)) (fresh_writing (contents writer)) written came read.reply starts;
    spelled = spelled;
    read = read.read;
    known = read.known;
  }

  asked_part : (written : Writing) (fault : ExchangeFault) → Starts (text_of service.base (written_for service request)) (fresh_writing (contents writer)) written (Err fault) → SpellsSent service.base (written_for service request) (fresh_writing (contents writer)) written
      → IsAsked remaining contents service request reader writer (Err fault)
  asked_part written fault starts spelled =
      let sends = sends_fault (text_of service.base (written_for service request)) (fresh_writing (contents writer)) written fault starts in
      record {
        left = fresh_reading (remaining reader);
        written = written;
        sent = sends.0;
        spelled = spelled;
        read = reads_none (kept_for service.keeps request) (fresh_reading (remaining reader)) (text_of service.base (written_for service request)) (fresh_writing (contents writer)) written fault starts;
        known = hindered_known (kept_for service.keeps request) (remaining reader) (remaining reader) (Err fault) sends.1;
      }

  asked_so : (written : Writing) (sent : Result (Unit {0}) ExchangeFault) (came : Result Answer ExchangeFault) → Starts (text_of service.base (written_for service request)) (fresh_writing (contents writer)) written sent
      → SpellsSent service.base (written_for service request) (fresh_writing (contents writer)) written → IsHeard remaining (kept_for service.keeps request) reader sent came → IsAsked remaining contents service request reader writer came
  asked_so written (Ok done) came starts spelled heard = asked_whole written came starts spelled heard
  asked_so written (Err fault) came starts spelled same = subst (λ (r : Result Answer ExchangeFault). IsAsked remaining contents service request reader writer r) (sym same) (asked_part written fault starts spelled)

-- a request that was sent on this stream, and what came there
pub asked_of : {I O : Type 0} (remaining : I → Option (List ℕ)) (contents : O → Option (List ℕ)) (service : Service) (f : Flight I O) (stream : I × O) → IsSetOut contents service f.request stream f → (came : Result Answer ExchangeFault)
    → IsHeard remaining (kept_for service.keeps f.request) f.reader f.sent came → IsAsked remaining contents service f.request stream.0 stream.1 came
asked_of {I} remaining contents service f stream set came heard =
    asked_so remaining contents service f.request stream.0 stream.1 set.written f.sent came set.starts set.spelled
    (subst (λ (r : I). IsHeard remaining (kept_for service.keeps f.request) r f.sent came) set.reader_is heard)
