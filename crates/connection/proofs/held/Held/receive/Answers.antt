use Rattle.std.specs.Io.KnownBytes.{prepend_known}
use Rattle.connection.proofs.StreamLemmas.{keeps_trans}
use Rattle.connection.proofs.HoldingLemmas.{come_by_then, come_now, looked_since, same_since}
use Rattle.connection.proofs.held.Held.receive.Goals as goal

pub loop-preserved : goal.loop-preserved
loop-preserved g c = let before = c.args.self.now in let now = c.loop.self in let after = c.read_once.new.self in record {
  bytes = keeps_trans (prepend_known before.received.bytes.items (g.S.Read.remaining before.stream))
      (prepend_known now.received.bytes.items (g.S.Read.remaining now.stream))
      (prepend_known after.received.bytes.items (g.S.Read.remaining after.stream)) c.loop.invariant.bytes c.read_once.ensures.bytes;
  same = same_since before now after c.loop.invariant.same c.read_once.ensures.same;
  next = looked_since before now after c.loop.invariant.same c.loop.invariant.next c.read_once.ensures.next;
  come = come_now c.loop.self.received c.read_once.new.self.received c.read_once.result c.in-Bytes.is c.read_once.ensures.come;
}

pub returns-in-Nothing-clause-come : goal.returns-in-Nothing-clause-come
returns-in-Nothing-clause-come g c = come_by_then c.args.self.now.received c.loop.self.received c.read_once.new.self.received
    c.loop.arrival c.read_once.result c.loop.invariant.come c.in-Nothing.is c.read_once.ensures.come
