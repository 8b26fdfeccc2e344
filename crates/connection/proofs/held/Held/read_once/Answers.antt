use Rattle.std.proofs.Common.{Bool, sym, subst}
use Rattle.std.specs.Bool.{OnFalse}
use Rattle.connection.specs.Arriving.{Waits}
use Rattle.connection.specs.declared.received.Received.{Received}
use Rattle.connection.proofs.held.Held.read_once.Goals as goal

pub returns-then-not-self-clause-come : goal.returns-then-not-self-clause-come
returns-then-not-self-clause-come g c =
    let waits : ∥ Waits c.is_ready.new.self.bytes.items ∥₁ =
    subst (λ (ready : Bool). OnFalse ready ∥ Waits c.is_ready.new.self.bytes.items ∥₁) c.if-is_ready.false c.is_ready.ensures.waits in
    subst (λ (received : Received). ∥ Waits received.bytes.items ∥₁) (sym c.rest.ensures.received) waits
