use Rattle.std.proofs.Common.{ℕ, List, Option, ap, subst}
use Rattle.scim_client.specs.Exchanges.{ExchangesKnown, Reads}
use Rattle.http_text.specs.Counts.{Reading, fresh_reading}
use Rattle.provisioning.proofs.TrackLemmas.{heard_fault, heard_whole}
use Rattle.provisioning.proofs.tracks.hear.Goals as goal

pub returns-in-Ok : goal.returns-in-Ok
returns-in-Ok g c = heard_whole g.R.Read.remaining c.args.request.now c.args.reader c.args.sent _ c.read_reply-came.result c.in-Ok.is (record {
  left = c.read_reply-came.new.reader;
  reply = c.read_reply-came.ensures.reply;
  read = subst (λ (bytes : Option (List ℕ)). Reads c.args.request.now (fresh_reading bytes) c.read_reply-came.new.reader c.read_reply-came.result) (ap g.R.Read.remaining c.new.ensures)
      (subst (λ (r : Reading). Reads c.args.request.now r c.read_reply-came.new.reader c.read_reply-came.result) c.new-input.ensures c.read_reply-came.ensures.read);
  known = subst (λ (bytes : Option (List ℕ)). ExchangesKnown c.args.request.now bytes c.read_reply-came.new.reader.remaining c.read_reply-came.result) (ap g.R.Read.remaining c.new.ensures)
      (subst (λ (r : Reading). ExchangesKnown c.args.request.now r.remaining c.read_reply-came.new.reader.remaining c.read_reply-came.result) c.new-input.ensures c.read_reply-came.ensures.known);
})

pub returns-in-Err : goal.returns-in-Err
returns-in-Err g c = heard_fault g.R.Read.remaining c.args.request.now c.args.reader c.args.sent c.in-Err.fault c.in-Err.is
