use Rattle.std.proofs.Common.{◌≡◌, ap, vec_len, arith}
use Rattle.connection.specs.declared.endings.Endings.{Endings}
use Rattle.connection.proofs.endings.Endings.go_on.Goals as goal
use Rattle.connection.proofs.endings.Endings.go_on.Goals.{then-self-len, else-self-len}

pub loop-preserved : goal.loop-preserved
loop-preserved g c =
    let before : vec_len c.if-self-len.self.endings ≡ vec_len c.loop.self.endings = elim c.if-self-len.branch [
      | then-self-len w ↦ ap (λ (self : Endings _ _). vec_len self.endings) w.self-is
      | else-self-len w ↦ ap (λ (self : Endings _ _). vec_len self.endings) w.self-is
    ] in record {
      fewer = omega (arith, before, c.look.ensures, c.loop.invariant.fewer);
      few = omega (arith, c.loop.invariant.few, c.if-looks-eq-MOST_LOOKS.false);
    }
