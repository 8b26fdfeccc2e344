use Rattle.connection.proofs.StreamLemmas.{keeps_part}
use Rattle.connection.proofs.ending.Ending.send.Goals as goal

pub returns-in_default-clause-bytes : goal.returns-in_default-clause-bytes
returns-in_default-clause-bytes g c = let before = c.args.self.now in
    keeps_part (g.S.Write.contents before.stream.stream) (g.S.Write.contents c.write.new.self.stream) c.deref.result.now before.unsent.items before.sent
    c.in_ok-count.count c.deref.ensures.value c.in_ok-count.ensures.bytes
