use Rattle.std.proofs.Common.{inr, List, ℕ, sym, subst}
use Rattle.std.specs.Io.KnownBytes.{Keeps, prepend_known}
use Rattle.connection.proofs.HoldingLemmas.{waits_on}
use Rattle.connection.proofs.held.Held.is_ready.Goals as goal

pub returns : goal.returns
returns g c = let before = c.args.self.now in let then = c.receive.new.self in record {
  bytes = subst (λ (bytes : List ℕ). Keeps (prepend_known before.received.bytes.items (g.S.Read.remaining before.stream))
      (prepend_known bytes (g.S.Read.remaining then.stream))) (sym c.shrink.ensures.bytes) c.receive.ensures.bytes;
  number = c.receive.ensures.same.number;
  deadline = c.receive.ensures.same.deadline;
  accepted = c.receive.ensures.same.accepted;
  put_back = inr (record {
    waits = waits_on before.received then.received c.shrink.new.self c.receive.result c.receive.ensures.come c.in_default.not-Last c.shrink.ensures.bytes;
    next = c.receive.ensures.next;
  });
}
