use Rattle.std.proofs.Common.{◌≡◌, ◌≤◌}
use Rattle.connection.proofs.HoldingLemmas.{SoFar}
use Rattle.connection.proofs.waiting.Waiting.take_from_round.Given as goal

-- those before the place were passed, and none of them can be served
abbrev pub invariant-loop-place : goal.invariant-loop-place
invariant-loop-place g l = record {
  so_far : SoFar g.S.Read.remaining l.now l.first l.place l.looks l.initial.self.connections.items l.self.connections.items;
  few : l.looks ≤ 4;
  end : l.self.end ≡ l.initial.self.end;
}
