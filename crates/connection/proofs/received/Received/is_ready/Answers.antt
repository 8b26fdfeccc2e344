use Rattle.std.proofs.Common.{◌≡◌, ◌<◌, length, IfSome, Option, ℕ, inr, refl, subst, arith, rules}
use Rattle.std.proofs.Math.Logic.{∥∥₁_map}
use Rattle.connection.specs.Arriving.{HasLength}
use Rattle.connection.proofs.ArrivingLemmas.{part_waits}
use Rattle.connection.proofs.received.Received.is_ready.Goals as goal

pub returns-in-Some-clause-waits : goal.returns-in-Some-clause-waits
returns-in-Some-clause-waits c =
    let bytes = c.args.self.now.bytes.items in
    let count : length bytes ≡ c.len.result = search rules in
    let short : length bytes < c.in-Some.whole = omega (arith, count, c.if-len-whole.true) in
    ∥∥₁_map c.args.self.now.length
    (λ has. part_waits bytes c.in-Some.whole (subst (λ (whole : Option ℕ). IfSome whole (HasLength bytes)) c.in-Some.is has) short)

pub returns-in-None-clause-waits : goal.returns-in-None-clause-waits
returns-in-None-clause-waits c = ∥∥₁_map (c.if-is_put_off.ensures.waits refl) inr
