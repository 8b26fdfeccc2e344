use Rattle.scim_client.proofs.ExchangeLemmas.{is_reply, reads, exchanges_known}
use Rattle.scim_client.proofs.exchange.read_reply.Goals as goal

pub returns-clause-reply : goal.returns-clause-reply
returns-clause-reply g c = is_reply _ c.receive.ensures.0 _ c.receive.ensures.2

pub returns-clause-read : goal.returns-clause-read
returns-clause-read g c = reads _ _ _ c.receive.ensures.0 c.receive.ensures.1 _ c.receive.ensures.2

pub returns-clause-known : goal.returns-clause-known
returns-clause-known g c = exchanges_known _ c.args.reader.now c.receive.new.reader c.receive.ensures.0 c.receive.ensures.1 _ c.receive.ensures.2
