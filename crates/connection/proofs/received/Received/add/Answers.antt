use Rattle.std.proofs.Common.{◌≡◌, ◌++◌, true}
use Rattle.std.proofs.Math.Logic.{∥∥₁_map}
use Rattle.connection.proofs.ArrivingLemmas.{added_length, added_lines, added_undecided}
use Rattle.connection.proofs.received.Received.add.Goals as goal

pub invariant_of-self-2 : goal.invariant_of-self-2
invariant_of-self-2 c =
    let old = c.args.self.now in
    let bytes = old.bytes.items in
    let more = c.args.bytes.now in
    let now = c.extend_from_slice.new.self.items in
    let is : now ≡ bytes ++ more = c.in_ok-extend_from_slice.ensures.items in record {
      undecided = ∥∥₁_map old.undecided (added_undecided true bytes more now old.read is);
      length = ∥∥₁_map old.length (added_length true bytes more now old.whole is);
      followed = added_lines true bytes more now old.lines c.lines_after-self.result is old.followed c.lines_after-self.ensures;
    }
