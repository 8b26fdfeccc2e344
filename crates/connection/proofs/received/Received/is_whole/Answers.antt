use Rattle.std.proofs.Common.{◌≡◌, ◌<◌, length, arith, rules}
use Rattle.connection.proofs.ArrivingLemmas.{part_waits}
use Rattle.connection.proofs.received.Received.is_whole.Goals as goal

pub returns-then-len-whole-clause-waits : goal.returns-then-len-whole-clause-waits
returns-then-len-whole-clause-waits c =
    let bytes = c.args.self.now.bytes.items in
    let count : length bytes ≡ c.len.result = search rules in
    let short : length bytes < c.args.whole = omega (arith, count, c.if-len-whole.true) in
    ∣ part_waits bytes c.args.whole c.requires short ∣₁
