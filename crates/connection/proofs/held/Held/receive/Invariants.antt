use Rattle.std.specs.Io.KnownBytes.{Keeps, prepend_known}
use Rattle.connection.specs.Holding.{HasCome, IsLookedAtBy, IsSame}
use Rattle.connection.proofs.held.Held.receive.Given as goal

-- no byte was lost, and what was found is that of the last read that gave bytes
abbrev pub invariant-loop : goal.invariant-loop
invariant-loop g l = record {
  bytes : Keeps (prepend_known l.initial.self.received.bytes.items (g.S.Read.remaining l.initial.self.stream)) (prepend_known l.self.received.bytes.items (g.S.Read.remaining l.self.stream));
  same : IsSame l.initial.self l.self;
  next : IsLookedAtBy l.initial.self l.self;
  come : HasCome l.initial.self.received l.self.received l.arrival;
}
