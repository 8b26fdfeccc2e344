use Rattle.std.proofs.Common.{◌≤◌, length, arith}
use Rattle.connection.proofs.StreamLemmas.{reads_after}
use Rattle.connection.proofs.ahead.AheadReaderRead.read.Goals as goal

pub returns-then-self-len-clause-bytes : goal.returns-then-self-len-clause-bytes
returns-then-self-len-clause-bytes g c = let self = c.args.self.now in
    let same = self.ahead.ok in
    let given : length self.ahead.items ≤ self.given = omega arith in
    reads_after self.ahead.items self.given _ _ c.read.result c.read.new.buf given c.read.ensures.bytes
