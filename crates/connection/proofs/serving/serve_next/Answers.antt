use Rattle.std.proofs.Common.{[], ◌∷◌, ◌∙◌}
use Rattle.connection.specs.Turns.{taken}
use Rattle.connection.proofs.TurnLemmas.{taken_still}
use Rattle.connection.proofs.serving.serve_next.Goals as goal

pub returns : goal.returns
returns g c = record {
  turn = taken c.in-Ok.reader c.in-Ok.writer c.serve_opened-served.result;
  takes = taken_still _ _ _ ((c.in-Ok.reader, c.in-Ok.writer) ∷ []) c.in-Ok.ensures.next
      (c.end.ensures ∙ g.met.L.Listen.keeps_waiting _ _ c.serve_opened-served.ensures.keeps);
  served = c.serve_opened-served.ensures.served;
  result_is = c.answered.ensures;
}
