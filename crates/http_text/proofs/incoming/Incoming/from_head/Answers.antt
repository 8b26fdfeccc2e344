use Rattle.http_text.proofs.SpanLemmas.{message_kept}
use Rattle.http_text.proofs.incoming.Incoming.from_head.Goals as goal

pub returns-in-Ok-clause-message : goal.returns-in-Ok-clause-message
returns-in-Ok-clause-message c =
    message_kept c.args.bytes.items c.args.fields.now c.args.head c.requires c.truncate.new.self.items c.in-Ok.fields.items c.truncate.ensures.items c.in-Ok.ensures.items
